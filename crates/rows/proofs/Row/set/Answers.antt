use Rattle.std.proofs.Common.{arith, length, take, length-set, length-take-le, length-append, length-drop, ◌≡◌}
use Rattle.rows.proofs.Rows.{blank_behind}
use Rattle.rows.proofs.Row.set.Goals as goal

pub invariant_of-self : goal.invariant_of-self
invariant_of-self g c =
    let p = c.self.inside in
    let items = take p.count p.places in
    let seen : length items ≡ p.count = length-take-le p.count p.places (omega (arith, c.self.told, c.self.invariant)) in (
      c.self.invariant.0,
      rw (length-append, length-drop, length-set, seen) (omega (arith, c.self.told, c.self.invariant)),
      blank_behind g.row.N _ p.count p.places _ c.self.invariant.0 c.self.told c.self.invariant.2 (length-set _ _ _),
    )
