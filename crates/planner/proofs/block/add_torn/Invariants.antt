-- The loop has added what is torn of the streams passed.
use Rattle.std.proofs.Common.{◌≡◌, ◌++◌, take}
use Rattle.planner.specs.Plan.{torn_of}
use Rattle.planner.proofs.block.add_torn.Given as goal

abbrev pub invariant-loop-stream : goal.invariant-loop-stream
invariant-loop-stream l = l.table ≡ l.initial.table ++ torn_of l.order (take l.stream-index l.streams)
