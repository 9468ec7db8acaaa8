-- The loop's invariant: the rows are those after the rounds 0 to k - 1. Assumes nothing.
use Rattle.std.proofs.Common.{◌≡◌}
use Rattle.blocks.specs.Reach.{rounds_of}
use Rattle.blocks.proofs.Reach.of.Given as goal

abbrev pub invariant-loop-k : goal.invariant-loop-k
invariant-loop-k l = l.rows ≡ rounds_of l.k l.fn.links
