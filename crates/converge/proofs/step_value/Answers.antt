-- `converge::step_value` meets its contract: what Moved writes into rows of one.
use Rattle.std.proofs.Common.{sym, subst, [], ◌∷◌}
use Rattle.converge.specs.Promise.{Moves, value_stepped}
use Rattle.converge.proofs.Lent.{value_moves}
use Rattle.converge.proofs.step_value.Goals as goal

pub returns : goal.returns
returns c =
    let a = c.args in
    let t = a.terms in
    value_moves a.x a.y a.past a.count t.method t.tolerance t.limit c.in-Ok.top _ c.items.result.now
    (subst (Moves (value_stepped a.x a.y a.past a.count t.method t.tolerance t.limit) (a.x ∷ []) (a.y ∷ []) (a.past ∷ []) a.count c.in-Ok.top)
    (sym c.items.ensures.items) c.in-Ok.ensures)
