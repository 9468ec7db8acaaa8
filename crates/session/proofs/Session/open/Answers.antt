use Rattle.std.proofs.Common.{◌≡◌, Err, rules}
use Rattle.session.proofs.Answers.{answered}
use Rattle.session.proofs.Session.open.Goals as goal

pub returns-in_err-self : goal.returns-in_err-self
returns-in_err-self c =
    let why = c.in_err-self.field-0.0 in
    let e : c.from_residual.result ≡ Err why = search rules in
    let told = (c.in_err-self.ensures.answer c.args.self.now) in
    let r = answered _ c.args.work.now _ _ c.opened-answer.ensures.work c.clear_work.ensures _ c.args.self.now told in
    rw e (record { number = r.0; session = r.1; memory = r.2 })

pub returns : goal.returns
returns c =
    let told = (c.in_ok-self.ensures.answer c.args.self.now) in
    let r = answered _ c.args.work.now _ _ c.opened-answer.ensures.work c.clear_work.ensures 0 c.in_ok-self.field-0 told in
    record { number = r.0; session = r.1; memory = r.2 }
