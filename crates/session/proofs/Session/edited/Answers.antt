use Rattle.std.proofs.Common.{◌≡◌, true, sym, arith, length, rules}
use Rattle.planner.proofs.Memory.{spent_after, spent_then}
use Rattle.session.specs.Session.{is_held}
use Rattle.session.proofs.Edited.{edited_good}
use Rattle.session.proofs.Held.{held_exact}
use Rattle.session.proofs.Answers.{short, not_held, faulty, large, planned_after}
use Rattle.session.proofs.Session.edited.Goals as goal

pub returns-then-work-lt65536-clause-answer : goal.returns-then-work-lt65536-clause-answer
returns-then-work-lt65536-clause-answer c = short c.args.edit c.args.self.now _ (omega arith)

pub returns-then-not-is_held-clause-answer : goal.returns-then-not-is_held-clause-answer
returns-then-not-is_held-clause-answer c = not_held c.args.edit c.args.self.now _ (omega arith) (cc)

pub returns-in_err-edit-clause-answer : goal.returns-in_err-edit-clause-answer
returns-in_err-edit-clause-answer c =
    let held : is_held c.args.self.now ≡ true = cc in
    faulty c.args.edit c.args.self.now _ (omega arith) held c.in_err-edit.field-0.0 c.in_err-edit.ensures.number _ (search rules)

pub plan_of-requires : goal.plan_of-requires
plan_of-requires c =
    let held : is_held c.args.self.now ≡ true = cc in
    rw c.in_ok-edit.ensures.sheet
    (edited_good c.args.edit c.args.self.now.sheet ((held_exact c.args.self.now).0 held).good (sym c.in_ok-edit.ensures.number))

pub returns-in-Ok-clause-answer : goal.returns-in-Ok-clause-answer
returns-in-Ok-clause-answer c =
    let held : is_held c.args.self.now ≡ true = cc in
    planned_after c.args.edit c.args.self.now (length c.args.work.now) (omega arith) held c.in_ok-edit.ensures.number
    (length c.is_held.new.work) c.is_held.ensures.work.long c.edit.new.sheet c.in_ok-edit.ensures.sheet c.in-Ok.plan c.in-Ok.ensures.answer

pub returns-in-Ok-clause-work : goal.returns-in-Ok-clause-work
returns-in-Ok-clause-work c =
    spent_then c.args.work.now c.is_held.new.work _ c.is_held.ensures.work (rw c.plan_of.ensures.work (spent_after c.is_held.new.work))

pub returns-in-Err-clause-answer : goal.returns-in-Err-clause-answer
returns-in-Err-clause-answer c =
    let held : is_held c.args.self.now ≡ true = cc in
    large c.args.edit c.args.self.now (length c.args.work.now) (omega arith) held c.in_ok-edit.ensures.number
    (length c.is_held.new.work) c.is_held.ensures.work.long c.in-Err.field-0
    (rw c.in_ok-edit.ensures.sheet at c.in-Err.ensures.answer) _ c.large.ensures

pub returns-in-Err-clause-work : goal.returns-in-Err-clause-work
returns-in-Err-clause-work c =
    spent_then c.args.work.now c.is_held.new.work _ c.is_held.ensures.work (rw c.plan_of.ensures.work (spent_after c.is_held.new.work))
