-- The loop's invariant: the set has the places below `k` that reach the place. Assumes nothing.
use Rattle.std.proofs.Common.{◌≡◌}
use Rattle.blocks.specs.Blocks.{column_of}
use Rattle.blocks.proofs.Reach.column.Given as goal

abbrev pub invariant-loop-k : goal.invariant-loop-k
invariant-loop-k l = l.set ≡ column_of l.self.rows l.k l.place
