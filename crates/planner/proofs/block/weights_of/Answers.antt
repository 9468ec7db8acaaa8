-- An empty row weighs nothing.
use Rattle.std.proofs.Common.{refl, arith}
use Rattle.tearing.proofs.Total.{total_none}
use Rattle.planner.specs.Plan.{row_of}
use Rattle.planner.proofs.block.weights_of.Goals as goal

pub loop-stream-init : goal.loop-stream-init
unfolding row_of
loop-stream-init c = let none = total_none 144 in (omega (arith, none), refl)
