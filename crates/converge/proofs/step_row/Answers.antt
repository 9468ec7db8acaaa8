-- `converge::step_row` meets its contract: the two rows make the records that are judged, and take this x and y at Moved.
use Rattle.std.proofs.Common.{◌∙◌, sym, ap, length, ℕ}
use Rattle.std.proofs.lemmas.List.{length-take-le}
use Rattle.converge.specs.Row.{records_of, refused_or}
use Rattle.converge.proofs.Accepted.{accepted_few}
use Rattle.converge.proofs.Records.{rows_refused, rows_step}
use Rattle.converge.proofs.Rows.{records_length, records_x, records_y}
use Rattle.converge.proofs.step_row.Goals as goal

pub returns-then-past_x-past_y : goal.returns-then-past_x-past_y
returns-then-past_x-past_y c = rows_refused _ _ _ _ _ _ _ _ (λ l m. absurd (c.if-past_x-past_y.true l))

pub slice_bounds-places-end : goal.slice_bounds-places-end
slice_bounds-places-end c = accepted_few _ _ _ _ _ _ c.in-Ok.ensures.1

pub slice_bounds-history-end : goal.slice_bounds-history-end
slice_bounds-history-end c = sym (length-take-le _ _ (accepted_few _ _ _ _ _ _ c.in-Ok.ensures.1))

pub write_records-requires : goal.write_records-requires
write_records-requires c =
    let n = sym (length-take-le _ _ (accepted_few _ _ _ _ _ _ c.in-Ok.ensures.1)) in
    (n, sym c.if-past_x-past_y.false ∙ n)

pub judge-requires-clause-accepted : goal.judge-requires-clause-accepted
judge-requires-clause-accepted c =
    let a = c.args in
    let t = a.terms in
    let n = ap length c.write_records.ensures ∙ records_length _ _ c.if-past_x-past_y.false in
    (c.in-Ok.ensures.0, ap (λ (k : ℕ). refused_or a.x.now a.y.now k t.method t.tolerance t.limit 0) n ∙ c.in-Ok.ensures.1)

pub copy_from_slice-requires : goal.copy_from_slice-requires
copy_from_slice-requires c =
    let n = ap length c.write_records.ensures ∙ records_length _ _ c.if-past_x-past_y.false in
    sym (c.in-Ok-judge.ensures.recorded ∙ n)

pub returns : goal.returns
returns c =
    let a = c.args in
    let t = a.terms in
    let k = c.in-Ok-judge.ensures in
    rows_step a.x.now a.y.now a.past_x.now a.past_y.now a.count.now t.method t.tolerance t.limit
    c.write_records.new.history (records_of a.x.now a.y.now) _ _ _ _ _ c.if-past_x-past_y.false c.write_records.ensures
    (record { verdict = k.step.verdict; x = c.copy_from_slice-3.ensures.after ∙ c.items.ensures.items ∙ k.step.x; past = k.step.past; count = k.step.count })
    (c.copy_from_slice.ensures.after ∙ sym (records_x _ _ k.level)) (c.copy_from_slice-2.ensures.after ∙ sym (records_y _ _ k.level))
