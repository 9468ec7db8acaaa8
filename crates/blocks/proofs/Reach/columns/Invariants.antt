-- The loop's invariant: each set below `place` is its place's column. Assumes nothing.
use Rattle.std.proofs.Common.{◌≡◌, ℕ, ◌<◌, length, get_or}
use Rattle.blocks.specs.Blocks.{column_of}
use Rattle.blocks.proofs.Reach.columns.Given as goal

abbrev pub invariant-loop-place : goal.invariant-loop-place
invariant-loop-place l =
    record {
      size : length l.set-items ≡ l.self.places;
      so_far : (j : ℕ) → j < l.place → get_or l.set-items j 0 ≡ column_of l.self.rows l.self.places j;
    }
