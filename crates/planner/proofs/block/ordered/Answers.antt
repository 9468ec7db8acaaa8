-- The order of tearing, in units.
use Rattle.std.proofs.Common.{ℕ, length, ap, ◌∙◌, arith, refl}
use Rattle.tearing.proofs.Chosen.{best-length, best_at}
use Rattle.tearing.specs.Row.{weights}
use Rattle.planner.specs.Plan.{units_in, ordered_of}
use Rattle.planner.proofs.block.ordered.Goals as goal

pub units_in-requires : goal.units_in-requires
units_in-requires c =
    let W : ℕ → ℕ → ℕ = weights c.weights_of-weights.result.row in
    let units = c.items-units in
    let n : ℕ = length units.result.now in
    let order = c.items.ensures.items ∙ c.order-order.ensures.order in
    rw (order, best-length W n) (omega (arith, ap length units.ensures.items, units.ensures.few), best_at W n)

pub returns-clause-units : goal.returns-clause-units
unfolding ordered_of units_in
returns-clause-units c =
    rw (c.units_in.ensures, c.items.ensures.items, c.order-order.ensures.order, c.weights_of-weights.ensures, c.items-units.ensures.items) refl
