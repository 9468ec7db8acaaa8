-- Each turn is one round more, and after 64 rounds the rows are the table of reach. Assumes nothing.
use Rattle.std.proofs.Common.{◌≡◌, ◌∙◌, refl, ap, arith, add-one}
use Rattle.blocks.specs.Reach.{round_of, rounds_of, reach_of}
use Rattle.blocks.proofs.Reach.of.Goals as goal

pub loop-k-init : goal.loop-k-init
unfolding rounds_of
loop-k-init c = refl

pub loop-k-preserved : goal.loop-k-preserved
unfolding rounds_of
loop-k-preserved c = rw (add-one c.loop-k.k) (c.round.ensures ∙ ap (round_of c.loop-k.k) c.loop-k.invariant)

pub returns-clause-rows : goal.returns-clause-rows
unfolding reach_of
returns-clause-rows c =
    let l = c.loop-k in
    let e : l.k ≡ 64 = omega arith in
    rw e at l.invariant
