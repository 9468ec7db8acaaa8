-- Where the record lies in the block row, the span that it gives is handed on.
use Rattle.std.proofs.Common.{◌≡◌, refl, arith}
use Rattle.planner.specs.declared.Asked.TheVariants.{Units, Tears}
use Rattle.planner.proofs.Spans.{no_record, units, tears}
use Rattle.planner.proofs.screen.part.Goals as goal

pub returns-then-blocks-at : goal.returns-then-blocks-at
returns-then-blocks-at c =
    let a = c.args in
    no_record a.blocks a.order a.torn _ a.place a.asked (omega arith) refl refl

pub returns-in-Units : goal.returns-in-Units
returns-in-Units c =
    let a = c.args in
    let at = c.from-at in
    let e : a.asked ≡ Units = c.in-Units.is in
    rw (e, ← at.ensures)
    (units a.blocks a.order a.torn _ at.result c.if-blocks-at.false c.span.ensures)

pub returns-in-Tears : goal.returns-in-Tears
returns-in-Tears c =
    let a = c.args in
    let at = c.from-at in
    let e : a.asked ≡ Tears = c.in-Tears.is in
    rw (e, ← at.ensures)
    (tears a.blocks a.order a.torn _ at.result c.if-blocks-at.false c.span-in-Tears.ensures)
