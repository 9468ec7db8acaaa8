-- The places of the order.
use Rattle.std.proofs.Common.{ℕ}
use Rattle.tearing.proofs.Chosen.{best-length, best_at}
use Rattle.tearing.specs.Row.{weights}
use Rattle.cases.proofs.orders.ordered.Goals as goal

pub torn_by-torn-requires-clause-places : goal.torn_by-torn-requires-clause-places
torn_by-torn-requires-clause-places g c =
    let W : ℕ → ℕ → ℕ = weights c.weights_by-weights.result.row in
    rw (c.items-order.ensures.items, c.order-order.ensures.order, best-length W 12) (best_at W 12)
