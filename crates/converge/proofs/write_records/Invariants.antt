-- A record stands at each place that was passed.
use Rattle.std.proofs.Common.{◌≡◌, ℕ, ◌<◌, length, get_or}
use Rattle.converge.specs.Row.{records_of}
use Rattle.converge.proofs.Rows.{blank}
use Rattle.converge.proofs.write_records.Given as goal

abbrev pub invariant-loop-i : goal.invariant-loop-i
invariant-loop-i l =
    record {
      size : length l.history ≡ length l.x;
      so_far : (k : ℕ) → k < l.i → get_or l.history k blank ≡ get_or (records_of l.x l.y) k blank;
    }
