use Rattle.std.proofs.Common.{◌≡◌, true, ◌∙◌}
use Rattle.flowsheet.specs.Good.{is_good}
use Rattle.planner.proofs.Memory.{spent_after}
use Rattle.session.proofs.Answers.{not_good, held_planned, held_large}
use Rattle.session.proofs.Session.is_held.Goals as goal

pub returns-then-not-is_good-clause-held : goal.returns-then-not-is_good-clause-held
returns-then-not-is_good-clause-held c = not_good c.args.self.now (cc)

pub returns-in-Ok-clause-held : goal.returns-in-Ok-clause-held
returns-in-Ok-clause-held c =
    let tested : is_good c.args.self.now.sheet.units c.args.self.now.sheet.streams ≡ true = cc in
    c.eq.ensures
    ∙ held_planned c.args.self.now (c.is_good.ensures.exactly.0 (cc)) tested _ c.requires c.in-Ok.plan c.in-Ok.ensures.answer

pub returns-in-Ok-clause-work : goal.returns-in-Ok-clause-work
returns-in-Ok-clause-work c = rw c.plan_of.ensures.work (spent_after c.args.work.now)

pub returns-in-Err-clause-held : goal.returns-in-Err-clause-held
returns-in-Err-clause-held c =
    let tested : is_good c.args.self.now.sheet.units c.args.self.now.sheet.streams ≡ true = cc in
    held_large c.args.self.now (c.is_good.ensures.exactly.0 (cc)) tested _ c.requires c.in-Err.field-0 c.in-Err.ensures.answer

pub returns-in-Err-clause-work : goal.returns-in-Err-clause-work
returns-in-Err-clause-work c = rw c.plan_of.ensures.work (spent_after c.args.work.now)
