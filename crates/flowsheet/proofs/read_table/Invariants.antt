-- The loop has read i records, none of which is refused: the number for all is that for the rest.
use Rattle.std.proofs.Common.{◌≡◌, ℕ, ◌+◌, ◌*◌, ◌-◌}
use Rattle.rows.specs.Rows.{table}
use Rattle.flowsheet.specs.Image.{before, first_from, fault_at}
use Rattle.flowsheet.proofs.read_table.Given as goal

abbrev pub invariant-loop-i : goal.invariant-loop-i
invariant-loop-i g l =
    let at = λ (i : ℕ). g.R.Record.held l.image (l.start + g.R.Record.WIDTH * i) in
    let fault = fault_at g.R.Record.number g.R.Record.OUT_OF_TURN (g.R.Record.fault l.units) at in record {
      read : l.records ≡ table at l.i;
      before_it : l.last ≡ before (λ (j : ℕ). g.R.Record.number (at j)) l.i;
      rest : first_from fault 0 l.count ≡ first_from fault l.i (l.count - l.i);
    }
