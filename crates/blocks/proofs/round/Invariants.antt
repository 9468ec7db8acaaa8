-- The loop's invariant: the rows before the one at hand are those after the round, and the others those before it. Assumes nothing.
use Rattle.std.proofs.Common.{◌≡◌, get_or}
use Rattle.blocks.proofs.Turns.{Turned}
use Rattle.blocks.proofs.round.Given as goal

abbrev pub invariant-loop-row : goal.invariant-loop-row
invariant-loop-row l =
    record {
      onward : l.onward ≡ get_or l.fn.rows l.k 0;
      turned : Turned l.k l.fn.rows l.rows l.row-index;
    }
