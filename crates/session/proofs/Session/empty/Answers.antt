use Rattle.session.proofs.Answers.{empty_is}
use Rattle.session.proofs.Session.empty.Goals as goal

pub returns : goal.returns
returns c = rw (c.empty.ensures, c.no_plan.ensures) empty_is
