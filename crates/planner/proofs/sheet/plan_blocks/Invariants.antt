-- The blocks passed are planned.
use Rattle.std.proofs.Common.{◌≡◌, take}
use Rattle.planner.specs.Plan.{blocks_of}
use Rattle.planner.specs.Tables.{plan_value}
use Rattle.planner.proofs.Parted.{plans_of}
use Rattle.planner.proofs.sheet.plan_blocks.Given as goal

abbrev pub invariant-loop-place : goal.invariant-loop-place
invariant-loop-place l =
    l.plan ≡ plan_value (plans_of l.sheet.streams (take l.place-index (blocks_of l.sheet.units l.sheet.streams)))
