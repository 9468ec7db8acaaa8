-- A place that reaches this one joins the set, and the others leave it as it is. Assumes nothing.
use Rattle.std.proofs.Common.{◌∙◌, ◌==◌, ℕ, refl, sym, ap, ap₂, arith, bit_or, get_or-take}
use Rattle.sets.specs.Sets.{bit}
use Rattle.blocks.specs.Blocks.{column_of}
use Rattle.blocks.proofs.Turns.{column_joins, column_stays}
use Rattle.blocks.proofs.Reach.column.Goals as goal
use Rattle.blocks.proofs.Reach.column.Goals.{then-has, else-has}

pub loop-k-init : goal.loop-k-init
unfolding column_of
loop-k-init c = refl

pub loop-k-preserved : goal.loop-k-preserved
loop-k-preserved c =
    let l = c.loop-k in
    let t = c.args.self.now.rows in
    let i = c.args.place in
    let row = get_or-take c.args.self.now.places t l.k 0 (omega arith) in
    let has = ap (λ (r : ℕ). bit i r == 1) (sym row) ∙ sym c.has.ensures in
    elim c.if-has.branch [
      | then-has w ↦ w.set-is ∙ ap₂ bit_or l.invariant w.one-set.ensures ∙ column_joins t l.k i (has ∙ w.if-has.true)
      | else-has w ↦ w.set-is ∙ l.invariant ∙ column_stays t l.k i (has ∙ w.if-has.false)
    ]
