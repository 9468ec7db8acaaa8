-- What the places so far and those that are left weigh together is what all do, and each weighs less than 2 ^ 32.
use Rattle.std.proofs.Common.{◌≡◌, ◌+◌, ◌*◌, ◌^◌, ◌≤◌, drop}
use Rattle.tearing.specs.Row.{weights}
use Rattle.tearing.specs.Weight.{into}
use Rattle.cases.proofs.orders.torn_into.Given as goal

abbrev pub invariant-loop-place : goal.invariant-loop-place
invariant-loop-place l =
    (l.torn + into (weights l.weights.row) l.u (drop l.place-index l.places) ≡ into (weights l.weights.row) l.u l.places)
    × (l.torn ≤ 2 ^ 32 * l.place-index)
