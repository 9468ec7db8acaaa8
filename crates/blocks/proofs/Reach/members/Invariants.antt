-- The loop's invariant: the row has the block's places below `j`. Assumes nothing.
use Rattle.std.proofs.Common.{◌≡◌}
use Rattle.sets.specs.Sets.{members}
use Rattle.blocks.specs.Blocks.{block_of}
use Rattle.blocks.proofs.Reach.members.Given as goal

abbrev pub invariant-loop-j : goal.invariant-loop-j
invariant-loop-j l =
    record { block : l.set ≡ block_of l.self.rows l.self.places l.place; so_far : l.members ≡ members l.j l.set }
