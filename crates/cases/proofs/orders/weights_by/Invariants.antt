-- The row so far is that of as many weights, none of which is over 1,000.
use Rattle.std.proofs.Common.{◌≡◌, ◌*◌, ◌/◌, ◌%◌, ◌≤◌, ℕ}
use Rattle.rows.specs.Rows.{padded, table}
use Rattle.tearing.specs.Row.{total}
use Rattle.cases.specs.Orders.{weight_of}
use Rattle.cases.proofs.orders.weights_by.Given as goal

abbrev pub invariant-loop-k : goal.invariant-loop-k
invariant-loop-k l =
    (l.row ≡ padded 144 0 (table (λ (k : ℕ). weight_of l.rule (k / 12) (k % 12)) l.k)) × (total l.row ≤ 1000 * l.k)
