-- The row so far is that of as many.
use Rattle.std.proofs.Common.{◌≡◌, ℕ, ◌+◌, length}
use Rattle.rows.specs.Rows.{table}
use Rattle.cases.proofs.images.first_units.Given as goal

abbrev pub invariant-loop-i : goal.invariant-loop-i
invariant-loop-i l = (length l.units ≡ l.i) × (l.units ≡ table (λ (i : ℕ). i + 1) l.i)
