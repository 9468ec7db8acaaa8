-- The sets that are written stand at the front of the array.
use Rattle.std.proofs.Common.{◌∙◌, arith}
use Rattle.std.proofs.lemmas.List.{get_or_append_left}
use Rattle.blocks.proofs.Reach.columns.Goals as goal

pub returns : goal.returns
returns c i below =
    let l = c.loop-place in
    get_or_append_left l.set-items _ 0 i (omega (arith, l.invariant.size, below)) ∙ l.invariant.so_far i (omega arith)
