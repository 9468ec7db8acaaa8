-- `converge::judge` meets its contract: 34 and every verdict but Moved leave all.
use Rattle.std.proofs.Common.{◌∙◌, refl, sym, ap, subst}
use Rattle.std.specs.List.{find}
use Rattle.converge.specs.Doubles.{beyond}
use Rattle.converge.specs.Promise.{Moves}
use Rattle.converge.specs.Row.{stepped}
use Rattle.converge.specs.declared.Verdict.TheVariants.{Strayed}
use Rattle.converge.proofs.Accepted.{accepted}
use Rattle.converge.proofs.Lent.{decided_late, decided_none, decided_moves, history_kept, judged_early, early_stays, judged_strayed, judged-moved}
use Rattle.converge.proofs.judge.Goals as goal

pub returns-then-records_wrong : goal.returns-then-records_wrong
returns-then-records_wrong c = decided_late _ _ _ _ _ _ _ c.requires.accepted.1 (sym c.records_wrong.ensures ∙ c.if-records_wrong.true)

pub returns-in-Some : goal.returns-in-Some
returns-in-Some c =
    let e = decided_none _ _ _ _ _ _ _ c.requires.accepted.1 (sym c.records_wrong.ensures ∙ c.if-records_wrong.false) in
    history_kept _ _ _ _ _ _ _ _ c.requires.accepted.0 e c.in-Some.verdict
    (judged_early _ _ _ _ _ _ _ _ c.largest_gap-top.ensures c.in-Some.verdict c.in-Some.ensures)
    (early_stays _ _ _ _ _ _ c.in-Some.verdict c.in-Some.ensures)

pub push_nexts-requires : goal.push_nexts-requires
push_nexts-requires c = ((accepted _ _ _ _ _ _ _ (decided_none _ _ _ _ _ _ _ c.requires.accepted.1 (sym c.records_wrong.ensures ∙ c.if-records_wrong.false))).few, c.requires.empty)

pub returns-in-Some-first_stray : goal.returns-in-Some-first_stray
returns-in-Some-first_stray c =
    let v = c.in-Some-first_stray.next in
    let e = decided_none _ _ _ _ _ _ _ c.requires.accepted.1 (sym c.records_wrong.ensures ∙ c.if-records_wrong.false) in
    history_kept _ _ _ _ _ _ _ _ c.requires.accepted.0 e (Strayed v)
    (judged_strayed _ _ _ _ _ _ _ _ c.largest_gap-top.ensures v c.in_default.ensures
    (c.in-Some-first_stray.ensures ∙ ap (find beyond) (c.items.ensures.items ∙ c.push_nexts.ensures))) refl

pub returns : goal.returns
returns c =
    let a = c.args in
    let t = a.terms in
    let e = decided_none _ _ _ _ _ _ _ c.requires.accepted.1 (sym c.records_wrong.ensures ∙ c.if-records_wrong.false) in
    subst (Moves (stepped a.x.now a.y.now a.history.now a.count t.method t.tolerance t.limit) a.x.now a.y.now a.history.now a.count c.largest_gap-top.result)
    (sym c.push_nexts.ensures)
    (decided_moves _ _ _ _ _ _ _ _ c.requires.accepted.0 e _
    (judged-moved _ _ _ _ _ _ _ _ c.largest_gap-top.ensures c.in_default.ensures
    (c.in_default-first_stray.ensures ∙ ap (find beyond) (c.items.ensures.items ∙ c.push_nexts.ensures))))
