-- The loop stands at k: the first k sums with the place more are there, and the sums before them stay.
use Rattle.tearing.specs.Table.{Doubled}
use Rattle.tearing.proofs.double.Given as goal

abbrev pub invariant-loop-k : goal.invariant-loop-k
invariant-loop-k l = Doubled l.weights l.place l.size l.k l.fn.sums l.sums
