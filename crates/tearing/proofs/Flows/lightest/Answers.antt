-- A member of the set is asked for within the table, and the first of the lightest begins the best order, by `min_first`.
use Rattle.std.proofs.Common.{◌≡◌, ◌^◌, ◌≤◌, arith, rules}
use lib.Pow.{pow_mono}
use Rattle.tearing.proofs.Lowest.{min_first, min_is, min_fits}
use Rattle.tearing.proofs.Flows.lightest.Goals as goal

pub begun-requires-clause-within : goal.begun-requires-clause-within
begun-requires-clause-within c =
    let flows = c.args.self.now in
    let h : 2 ^ flows.places ≤ 2 ^ 12 = pow_mono flows.few in
    let room = c.requires in
    (omega (arith, flows.few), omega (arith, room.set), search rules, omega (arith, room.set, room.memory))

pub overflow_cast-result : goal.overflow_cast-result
overflow_cast-result c =
    let l = c.loop-u in
    let e : l.u ≡ c.args.self.now.places = omega arith in
    omega (arith, min_fits _ _ _ _ c.requires l.lightest l.begin (rw e at l.invariant))

pub returns-clause-first : goal.returns-clause-first
returns-clause-first c =
    let l = c.loop-u in
    let e : l.u ≡ c.args.self.now.places = omega arith in
    min_first _ _ _ _ c.requires l.lightest l.begin (rw e at l.invariant)

pub returns-clause-torn : goal.returns-clause-torn
returns-clause-torn c =
    let l = c.loop-u in
    let e : l.u ≡ c.args.self.now.places = omega arith in
    min_is _ _ _ _ c.requires l.lightest l.begin (rw e at l.invariant)
