-- What the places so far and those that are left tear together is what all do, and each tears at most twelve times 2 ^ 32.
use Rattle.std.proofs.Common.{◌≡◌, ◌+◌, ◌*◌, ◌^◌, ◌≤◌, drop}
use Rattle.tearing.specs.Row.{weights}
use Rattle.tearing.specs.Weight.{weight}
use Rattle.cases.proofs.orders.torn_by.Given as goal

abbrev pub invariant-loop-i : goal.invariant-loop-i
invariant-loop-i l =
    (l.torn + weight (weights l.weights.row) (drop l.i l.order) ≡ weight (weights l.weights.row) l.order)
    × (l.torn ≤ 12 * 2 ^ 32 * l.i)
