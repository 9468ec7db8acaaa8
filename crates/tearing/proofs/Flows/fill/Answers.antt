-- A step of the table has room by `room`, what `lightest` returns is the least of its set by `lowest_least`, and one more entry holds its least
-- by `filled_more`. What lies beyond the table stays.
use Rattle.std.proofs.Common.{List, ℕ, ◌+◌, ◌*◌, ◌^◌, ◌<◌, ◌≤◌, ap, ◌∙◌, arith, length, drop}
use lib.Pow.{pow_pos}
use Rattle.words.proofs.Numbers.{drop_with}
use Rattle.tearing.specs.Table.{between}
use Rattle.tearing.proofs.Steps.{least_bound}
use Rattle.tearing.proofs.Lowest.{first_lowest}
use Rattle.tearing.proofs.Filled.{filled_first, filled_more, room, lowest_least}
use Rattle.tearing.proofs.Flows.fill.Goals as goal

pub loop-set-init : goal.loop-set-init
loop-set-init c =
    let f = c.args.self.now in
    let l = c.args.work.now in
    let e = c.put.ensures in (
      ap (λ (k : List ℕ). drop (4 * 2 ^ f.places) k) e ∙ drop_with 4 l 0 0 (4 * 2 ^ f.places) (omega (arith, pow_pos f.places)),
      rw e (filled_first (between f.low.now f.high.now) f.places l (omega (arith, pow_pos f.places, c.requires))),
    )

pub lightest-torn-requires : goal.lightest-torn-requires
lightest-torn-requires c =
    let f = c.args.self.now in
    let l = c.loop-set in
    room _ f.places f.low.now f.high.now l.work f.sums l.set (omega (arith, c.one-end.ensures)) l.invariant.1 (omega arith) (omega (arith, c.requires))

pub loop-set-preserved : goal.loop-set-preserved
loop-set-preserved c =
    let f = c.args.self.now in
    let W : ℕ → ℕ → ℕ = between f.low.now f.high.now in
    let l = c.loop-set in
    let x = c.lightest-torn.result.1 in
    let h : l.set < 2 ^ f.places = omega (arith, c.one-end.ensures) in
    let r : 4 * l.set + 4 ≤ length l.work = omega (arith, c.requires) in
    let e = c.put-in-loop-set.ensures in
    let b = rw (← c.lightest-torn.ensures.torn) at (lowest_least W f.places f.low.now f.high.now l.work f.sums l.set h l.invariant.1 (first_lowest c.lightest-torn.ensures.first)) in (
      ap (λ (k : List ℕ). drop (4 * 2 ^ f.places) k) e ∙ drop_with 4 l.work (4 * l.set) x (4 * 2 ^ f.places) (omega arith) ∙ l.invariant.0,
      rw e (filled_more W f.places l.work l.set x l.invariant.1 b (omega (arith, least_bound W f.places l.set b, f.sums.small)) r),
    )
