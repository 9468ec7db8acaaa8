-- None of the eights before this one has the number.
use Rattle.std.proofs.Common.{◌≡◌, ◌*◌, take, None}
use Rattle.flowsheet.specs.Sheet.{place_of}
use Rattle.flowsheet.proofs.passed.Given as goal

abbrev pub invariant-loop-i : goal.invariant-loop-i
invariant-loop-i l = place_of (take (8 * l.i) l.units) l.number ≡ None
