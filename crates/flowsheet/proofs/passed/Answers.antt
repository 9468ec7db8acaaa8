-- Eight units more that don't have the number.
use Rattle.std.proofs.Common.{◌≡◌, ◌+◌, ◌-◌, ◌*◌, refl, ◌∙◌, sym, arith}
use Rattle.flowsheet.specs.Sheet.{place_of}
use Rattle.flowsheet.proofs.Places.{none_more}
use Rattle.flowsheet.proofs.passed.Goals as goal

pub loop-i-init : goal.loop-i-init
unfolding place_of
loop-i-init c = refl

pub loop-i-preserved : goal.loop-i-preserved
loop-i-preserved c =
    let i = c.loop-i.i in
    let eight : 8 * i + 8 - 8 * i ≡ 8 = omega arith in
    let next : 8 * (i + 1) ≡ 8 * i + 8 = omega arith in
    let none = rw eight at (sym c.contains.ensures.value ∙ c.if-contains.false) in
    rw next (none_more c.args.units.now c.args.number (8 * i) 8 c.loop-i.invariant none)
