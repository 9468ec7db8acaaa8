use Rattle.std.proofs.Common.{arith, ap, length, take, length-set, length-take-le, ◌∙◌, ◌<◌, ◌≡◌}
use Rattle.rows.proofs.Rows.{blank_beyond}
use Rattle.rows.proofs.Row.push.Goals as goal

pub invariant_of-self : goal.invariant_of-self
invariant_of-self g c =
    let p = c.self.inside in
    let seen : length (take p.count p.places) ≡ length c.args.self.now = ap length c.self.view_is in
    let room : p.count < g.row.N =
    omega (arith, seen, length-take-le p.count p.places (omega (arith, c.self.told, c.self.invariant)), c.requires) in (
      omega (arith, room),
      length-set p.places p.count c.args.item ∙ c.self.told,
      blank_beyond g.row.N _ p.count p.places c.args.item room c.self.told c.self.invariant.2,
    )
