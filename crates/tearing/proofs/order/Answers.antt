-- The two tables hold the sums of the weights, by `tables`, and so of what they say themselves of the weights, by `sums_between`. What is read off
-- is then the best order, by `best_between`, and beyond what is cleared nothing was written.
use Rattle.std.proofs.Common.{List, ◌≡◌, ℕ, ◌<◌, ◌*◌, ◌-◌, ◌^◌, ◌≤◌, min, ap, ◌∙◌, arith}
use lib.Pow.{pow_mono}
use Rattle.words.specs.Words.{cleared}
use Rattle.words.proofs.Cleared.{cleared_same}
use Rattle.tearing.specs.Row.{weights, total}
use Rattle.tearing.specs.Table.{Summed, Sums}
use Rattle.tearing.proofs.Halves.{summed_none, sums}
use Rattle.tearing.proofs.Between.{sums_between, best_between}
use Rattle.tearing.proofs.order.Goals as goal

-- what the two calls of `half` leave, the first of them asked for the x low places
tables : (w : List ℕ) (n x : ℕ) (low high : List ℕ) → n ≤ 12 → total w < 2 ^ 32 → x ≡ min n 6 → Summed (weights w) 0 low (12 * 2 ^ (x - 0))
    → Summed (weights w) 6 high (12 * 2 ^ (n - 6))
    → Sums (weights w) n low high
tables w n x low high few small is a b =
    let e : x - 0 ≡ min n 6 = omega arith in
    sums w n few low high (rw e at a) b small

pub half-requires-clause-empty_set : goal.half-requires-clause-empty_set
half-requires-clause-empty_set c = summed_none (weights c.args.weights.now.row) 0 768 (omega arith)

pub half-requires-2-clause-empty_set : goal.half-requires-2-clause-empty_set
half-requires-2-clause-empty_set c = summed_none (weights c.args.weights.now.row) 6 768 (omega arith)

pub invariant_of-flows : goal.invariant_of-flows
invariant_of-flows c =
    record {
      few = c.requires;
      sums = sums_between _ _ _ _ (tables c.args.weights.now.row _ _ _ _ c.requires c.args.weights.now.small c.min.ensures c.half.ensures c.half-2.ensures);
    }

pub fill-requires : goal.fill-requires
fill-requires c =
    let h : 2 ^ c.args.n ≤ 2 ^ 12 = pow_mono c.requires in
    omega arith

pub read_off-order-requires-clause-room : goal.read_off-order-requires-clause-room
read_off-order-requires-clause-room c =
    let h : 2 ^ c.args.n ≤ 2 ^ 12 = pow_mono c.requires in
    omega (arith, c.fill.auto.work)

pub clear_front-requires : goal.clear_front-requires
clear_front-requires c =
    let h : 2 ^ c.args.n ≤ 2 ^ 12 = pow_mono c.requires in
    omega (arith, c.one.ensures, c.fill.auto.work)

pub returns : goal.returns
returns c =
    let a = c.args in
    let w = a.weights.now in
    let table = c.fill.new.work in
    record {
      order = c.read_off-order.ensures
          ∙ best_between (weights w.row) a.n _ _ (tables w.row _ _ _ _ c.requires w.small c.min.ensures c.half.ensures c.half-2.ensures);
      work = c.clear_front.ensures ∙ ap (λ (k : ℕ). cleared table (4 * k)) c.one.ensures ∙ cleared_same table a.work.now (4 * 2 ^ a.n) c.fill.ensures.beyond;
    }
