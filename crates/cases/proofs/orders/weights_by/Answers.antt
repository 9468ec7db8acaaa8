-- An empty row weighs nothing; one weight more; and all of them.
use Rattle.std.proofs.Common.{◌≡◌, ℕ, ◌/◌, ◌%◌, ◌<◌, ◌∙◌, arith}
use Rattle.rows.specs.Rows.{table}
use Rattle.rows.proofs.Rows.{padded_none}
use Rattle.tearing.proofs.Total.{total_none}
use Rattle.cases.specs.Orders.{weight_of}
use Rattle.cases.proofs.Weights.{one_more, filled, total_more}
use Rattle.cases.proofs.orders.weights_by.Goals as goal

pub loop-k-init : goal.loop-k-init
unfolding table
loop-k-init c = (padded_none 144 0, omega (arith, total_none 144))

pub loop-k-preserved : goal.loop-k-preserved
loop-k-preserved c =
    let l = c.loop-k in
    let f = λ (k : ℕ). weight_of c.args.rule (k / 12) (k % 12) in
    let at : c.from.result ≡ l.k = cc in
    let place : c.from-place.result ≡ l.k = cc in
    let weight : c.weight_by.result ≡ f l.k = rw place at c.weight_by.ensures.is in
    let below : l.k < 144 = c.loop-k-test.true in
    let more = total_more f 144 l.k l.row c.weight_by.result below l.invariant.0 in
    (rw (at, weight) (one_more f 144 l.k l.row below l.invariant.0), rw at (omega (arith, more)))

pub returns : goal.returns
returns c =
    let f = λ (k : ℕ). weight_of c.args.rule (k / 12) (k % 12) in
    let all : c.loop-k.k ≡ 144 = omega arith in
    rw all at c.loop-k.invariant.0 ∙ filled f 144
