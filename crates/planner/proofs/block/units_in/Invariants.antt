-- The loop has put the units of the places passed.
use Rattle.std.proofs.Common.{◌≡◌, take}
use Rattle.planner.specs.Plan.{units_in}
use Rattle.planner.proofs.block.units_in.Given as goal

abbrev pub invariant-loop-place : goal.invariant-loop-place
invariant-loop-place l = l.chosen ≡ units_in l.units (take l.place-index l.places)
