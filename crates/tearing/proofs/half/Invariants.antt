-- The loop stands at a place: the sums of the sets of the places before it are there.
use Rattle.std.proofs.Common.{◌≡◌, ◌*◌, ◌-◌, ◌^◌, ◌≤◌}
use Rattle.tearing.specs.Row.{weights as weights_of}
use Rattle.tearing.specs.Table.{Summed}
use Rattle.tearing.proofs.half.Given as goal

abbrev pub invariant-loop-place : goal.invariant-loop-place
invariant-loop-place l =
    (l.place - l.from ≤ l.to - l.from)
    × (l.size ≡ 12 * 2 ^ (l.place - l.from))
    × Summed (weights_of l.weights.row) l.from l.sums l.size
