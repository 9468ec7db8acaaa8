-- The streams that are left make the row what it is to be; the total is at most 65,535 for each stream passed.
use Rattle.std.proofs.Common.{◌≡◌, ◌*◌, ◌≤◌, drop}
use Rattle.tearing.specs.Row.{total}
use Rattle.planner.specs.Plan.{charged_all, row_of}
use Rattle.planner.proofs.block.weights_of.Given as goal

abbrev pub invariant-loop-stream : goal.invariant-loop-stream
invariant-loop-stream l =
    (total l.row ≤ 65535 * l.stream-index)
    × (charged_all l.block l.row (drop l.stream-index l.streams) ≡ row_of l.block l.streams)
