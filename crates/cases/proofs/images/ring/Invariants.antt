-- The row so far is that of as many.
use Rattle.std.proofs.Common.{◌≡◌, length}
use Rattle.rows.specs.Rows.{table}
use Rattle.cases.specs.Images.{ring_stream}
use Rattle.cases.proofs.images.ring.Given as goal

abbrev pub invariant-loop-i : goal.invariant-loop-i
invariant-loop-i l = (length l.streams ≡ l.i) × (l.streams ≡ table (ring_stream l.units) l.i)
