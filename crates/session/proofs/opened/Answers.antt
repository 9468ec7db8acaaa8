use Rattle.std.proofs.Common.{Err, refl, rules}
use Rattle.planner.specs.declared.Refusal.TheVariants.{Image}
use Rattle.planner.proofs.Answers.{image_refused, image_planned, image_good}
use Rattle.planner.proofs.Memory.{spent_after}
use Rattle.session.proofs.Answers.{open_refused, open_made}
use Rattle.session.proofs.opened.Goals as goal

pub returns-in_err-sheet-clause-answer : goal.returns-in_err-sheet-clause-answer
returns-in_err-sheet-clause-answer c old =
    let why = c.in_err-sheet.field-0.0 in
    open_refused c.args.image.now _ old c.from_residual.result (Image why) (search rules)
    (image_refused c.args.image.now _ why c.in_err-sheet.ensures (Err (Image why)) refl)

pub plan_of-requires : goal.plan_of-requires
plan_of-requires c = image_good c.args.image.now c.in_ok-sheet.sheet c.in_ok-sheet.ensures

pub returns-in_err-plan-clause-answer : goal.returns-in_err-plan-clause-answer
returns-in_err-plan-clause-answer c old =
    let why = c.in_err-plan.field-0.0 in
    open_refused c.args.image.now _ old c.from_residual-in_err-plan.result why (search rules)
    (image_planned c.args.image.now _ c.in_ok-sheet.sheet c.in_ok-sheet.ensures (Err why) c.in_err-plan.ensures.answer)

pub returns-in_err-plan-clause-work : goal.returns-in_err-plan-clause-work
returns-in_err-plan-clause-work c = rw c.plan_of.ensures.work (spent_after c.args.work.now)

pub returns-clause-answer : goal.returns-clause-answer
returns-clause-answer c old =
    open_made c.args.image.now _ old c.in_ok-sheet.sheet c.in_ok-plan.plan c.in_ok-sheet.ensures c.in_ok-plan.ensures.answer

pub returns-clause-work : goal.returns-clause-work
returns-clause-work c = rw c.plan_of.ensures.work (spent_after c.args.work.now)
