-- What is searched stands behind the units that were passed.
use Rattle.std.proofs.Common.{◌+◌, ℕ, ap, sym, ◌∙◌}
use Rattle.std.specs.Option.{option_map}
use Rattle.flowsheet.proofs.Places.{place_past}
use Rattle.flowsheet.proofs.place_of.Goals as goal

pub returns-in_err-place : goal.returns-in_err-place
returns-in_err-place c =
    let p = c.passed-before in
    let searched = ap (option_map (λ (i : ℕ). p.result + i)) (sym c.searched.ensures ∙ c.in_err-place.was) in
    c.from_residual.ensures ∙ sym (place_past c.args.units.now c.args.number p.result p.ensures.few p.ensures.none ∙ searched)

pub returns : goal.returns
returns c =
    let p = c.passed-before in
    let searched = ap (option_map (λ (i : ℕ). p.result + i)) (sym c.searched.ensures ∙ c.in_ok-place.was) in
    sym (place_past c.args.units.now c.args.number p.result p.ensures.few p.ensures.none ∙ searched)
