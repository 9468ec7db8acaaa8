-- What was read lies in the row. The measure is the room left.
use Rattle.std.proofs.Common.{◌-◌, ◌≤◌, length}
use Rattle.plan.proofs.read_full.Given as goal

abbrev pub invariant-loop-done : goal.invariant-loop-done
invariant-loop-done g l = l.done ≤ length l.row

abbrev pub decreases-loop-done : goal.decreases-loop-done
decreases-loop-done g l = length l.row - l.done
