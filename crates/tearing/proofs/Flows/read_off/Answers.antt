-- A set that still has members has room by `room`, the place read off begins the best order of the set by `goes_more`, and at the end nothing
-- is left, by `goes_end`.
use Rattle.std.proofs.Common.{◌∷◌, [], ap, ◌∙◌, arith, length, length-append}
use lib.Pow.{pow_pos}
use Rattle.tearing.specs.Table.{between}
use Rattle.tearing.proofs.Bits.{bit_le}
use Rattle.tearing.proofs.Filled.{goes_start, goes_more, goes_end, fewer, members_pos, members-all, room}
use Rattle.tearing.proofs.Flows.read_off.Goals as goal

pub loop-init : goal.loop-init
loop-init c =
    let f = c.args.self.now in
    let e = c.one-left.ensures in
    let z = c.new-order.ensures in (
      omega (arith, e, pow_pos f.places),
      omega (arith, ap length z),
      rw e (omega (arith, members-all f.places)),
      rw (e, z) (goes_start (between f.low.now f.high.now) f.places),
    )

pub lightest-u-requires : goal.lightest-u-requires
lightest-u-requires c =
    let f = c.args.self.now in
    let l = c.loop in
    let i = l.invariant in
    room _ f.places f.low.now f.high.now c.args.work.now f.sums l.left i.0 (λ j h. c.requires.filled j (omega (arith, i.0)))
    (members_pos f.places l.left (omega (arith, i.2))) c.requires.room

pub overflow_sub-left-in-loop : goal.overflow_sub-left-in-loop
overflow_sub-left-in-loop c =
    let x = c.lightest-u in
    omega (arith, bit_le x.result.0 c.loop.left x.ensures.first.member, c.one-left-in-loop.ensures)

pub loop-preserved : goal.loop-preserved
loop-preserved c =
    let f = c.args.self.now in
    let x = c.lightest-u in
    let u = x.result.0 in
    let l = c.loop in
    let i = l.invariant in
    let e = c.one-left-in-loop.ensures in
    let p = c.push.ensures in
    let k = fewer f.places l.left u x.ensures.first.below x.ensures.first.member in (
      omega (arith, i.0),
      ap length p ∙ length-append l.order (u ∷ []) ∙ omega (arith, i.1),
      rw e (omega (arith, i.2, k)),
      rw (e, p) (goes_more (between f.low.now f.high.now) f.places f.low.now f.high.now c.args.work.now l.left l.order u i.0 f.sums c.requires.filled x.ensures.first i.3),
    )

pub returns : goal.returns
returns c =
    let f = c.args.self.now in
    let l = c.loop in
    goes_end (between f.low.now f.high.now) f.places l.left l.order (omega (arith, l.invariant.2)) l.invariant.3
