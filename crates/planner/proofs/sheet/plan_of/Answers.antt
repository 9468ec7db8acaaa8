-- The answer, with the memory cleared after it.
use Rattle.std.proofs.Common.{◌∙◌}
use Rattle.planner.proofs.Memory.{spent-cleared}
use Rattle.planner.proofs.sheet.plan_of.Goals as goal

pub returns-clause-work : goal.returns-clause-work
returns-clause-work c =
    let p = c.planned-answer in
    c.clear_work.ensures ∙ spent-cleared c.args.work.now p.new.work p.ensures.work
