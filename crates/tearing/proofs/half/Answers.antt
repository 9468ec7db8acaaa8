-- A call of `double` stays within 32 bits by `doubled_fits`, and what it leaves are the sums of one place more, by `summed_more`.
use Rattle.std.proofs.Common.{◌≡◌, suc, ◌+◌, ◌-◌, ◌^◌, ◌≤◌, arith}
use native.Mathlib.Nat.{pow-succ'}
use lib.Pow.{pow_mono}
use Rattle.tearing.proofs.Halves.{doubled_fits, summed_more}
use Rattle.tearing.proofs.half.Goals as goal

pub loop-place-init : goal.loop-place-init
loop-place-init c =
    let z : c.args.from - c.args.from ≡ 0 = omega arith in
    (omega arith, rw z, c.requires.empty_set)

pub double-requires-clause-room : goal.double-requires-clause-room
double-requires-clause-room c =
    let l = c.loop-place in
    let a = c.args in
    let h : 2 ^ (l.place - a.from) ≤ 2 ^ 5 = pow_mono {j = 5} (omega arith) in
    (omega arith, omega (arith, l.invariant.1))

pub double-requires-clause-fits : goal.double-requires-clause-fits
double-requires-clause-fits c =
    let l = c.loop-place in
    let a = c.args in
    doubled_fits a.weights.now.row a.from (l.place - a.from) l.place l.size (omega arith) (omega arith) l.invariant.1 l.sums
    l.invariant.2 a.weights.now.small

pub loop-place-preserved : goal.loop-place-preserved
loop-place-preserved c =
    let a = c.args in
    let l = c.loop-place in
    let d = c.double.ensures in
    let e : l.place + 1 - a.from ≡ suc (l.place - a.from) = omega arith in (
      omega arith,
      rw (e, pow-succ' 2 (l.place - a.from)) (omega (arith, l.invariant.1)),
      summed_more a.weights.now.row a.from (l.place - a.from) l.place l.size (omega arith) (omega arith) l.invariant.1
          l.sums l.invariant.2 _ d,
    )
