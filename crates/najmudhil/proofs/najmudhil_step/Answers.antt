-- The ways out of `najmudhil_step` are those of `Lent`.
use Rattle.std.proofs.Common.{sym, ap, ◌∙◌, arith}
use Rattle.converge.specs.Answer.{answer_of}
use Rattle.najmudhil.proofs.Lent.{out_short, out_refused, out_kept, out_moved}
use Rattle.najmudhil.proofs.najmudhil_step.Goals as goal

pub returns-then-lengths_wrong : goal.returns-then-lengths_wrong
returns-then-lengths_wrong c =
    rw c.from.ensures (out_short _ (sym c.lengths_wrong.ensures ∙ c.if-lengths_wrong.true))

pub returns-in-Refused : goal.returns-in-Refused
returns-in-Refused c =
    rw c.from-in-Refused.ensures
    (out_refused _ (sym c.lengths_wrong.ensures ∙ c.if-lengths_wrong.false)
    _ c.held_step-step.ensures _ c.in-Refused.is)

pub returns-in-Settled : goal.returns-in-Settled
returns-in-Settled c =
    rw c.put_answer.ensures
    (out_kept _ (sym c.lengths_wrong.ensures ∙ c.if-lengths_wrong.false)
    _ c.held_step-step.ensures 1 _ (λ e. omega (arith, e)) (ap answer_of c.in-Settled.is))

pub returns-in-Spent : goal.returns-in-Spent
returns-in-Spent c =
    rw c.put_answer-in-Spent.ensures
    (out_kept _ (sym c.lengths_wrong.ensures ∙ c.if-lengths_wrong.false)
    _ c.held_step-step.ensures 2 _ (λ e. omega (arith, e)) (ap answer_of c.in-Spent.is))

pub returns-in-Strayed : goal.returns-in-Strayed
returns-in-Strayed c =
    rw c.put_answer-in-Strayed.ensures
    (out_kept _ (sym c.lengths_wrong.ensures ∙ c.if-lengths_wrong.false)
    _ c.held_step-step.ensures 3 _ (λ e. omega (arith, e)) (ap answer_of c.in-Strayed.is))

pub returns-in-Moved : goal.returns-in-Moved
returns-in-Moved c =
    let e = c.put_moved.ensures in
    rw (c.put_answer-in-Moved.ensures, e.x, e.past, e.count)
    (out_moved _ (sym c.lengths_wrong.ensures ∙ c.if-lengths_wrong.false)
    _ c.held_step-step.ensures _ c.in-Moved.is)
