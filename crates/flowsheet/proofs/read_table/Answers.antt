-- A record that is refused decides the answer, and one that is not leaves it to the rest.
use Rattle.std.proofs.Common.{◌≡◌, ℕ, ◌+◌, ◌*◌, ◌-◌, Some, None, arith, rules, refl, sym, ap, ◌∙◌}
use Rattle.std.proofs.lemmas.Result.{err_from_is_err_and}
use Rattle.rows.specs.Rows.{table}
use Rattle.rows.proofs.Rows.{length-table, table_more}
use Rattle.flowsheet.specs.Answers.{number_of}
use Rattle.flowsheet.specs.Image.{first_from}
use Rattle.flowsheet.proofs.First.{before_more}
use Rattle.flowsheet.proofs.Tables.{read_in_turn, answered_err, number_some, out_of_turn, refused, passed}
use Rattle.flowsheet.proofs.read_table.Goals as goal

pub loop-i-init : goal.loop-i-init
unfolding table
loop-i-init g c =
    let e : c.args.count ≡ c.args.count - 0 = omega arith in
    record { read = c.requires.none; before_it = refl; rest = ap (first_from _ 0) e }

pub returns-in_default : goal.returns-in_default
returns-in_default g c =
    let a = c.args in
    let l = c.loop-i in
    let r = g.R.Record in
    let at = λ (i : ℕ). r.held a.image.now (a.start + r.WIDTH * i) in
    let none : read_in_turn r.number l.last (at l.i) ≡ None = cc in
    let some = λ (z : r.OUT_OF_TURN ≡ 0). number_some c.out_of_turn.result (c.out_of_turn.ensures ∙ z) in
    sym
    (answered_err c.out_of_turn.result _ _
    (out_of_turn r.number r.OUT_OF_TURN (r.fault a.units.now) at l.i a.count l.last (omega arith) l.invariant.before_it l.invariant.rest none some
    ∙ sym c.out_of_turn.ensures))

pub returns-in_err-check : goal.returns-in_err-check
returns-in_err-check g c =
    let a = c.args in
    let l = c.loop-i in
    let r = g.R.Record in
    let at = λ (i : ℕ). r.held a.image.now (a.start + r.WIDTH * i) in
    let why = c.in_err-check.field-0.0 in
    let read : read_in_turn r.number l.last (at l.i) ≡ Some c.in-Some.record = cc in
    let p = err_from_is_err_and c.from_residual.result c.from_residual.ensures.1 in
    rw (p.1, p.2)
    (sym
    (answered_err why _ _
    (refused r.number r.OUT_OF_TURN (r.fault a.units.now) at l.i a.count l.last (omega arith) l.invariant.before_it l.invariant.rest c.in-Some.record read (number_of why) c.in_err-check.ensures (number_some why))))

pub push-requires : goal.push-requires
push-requires g c = (search rules, rw (c.loop-i.invariant.read, length-table) (omega arith))

pub loop-i-preserved : goal.loop-i-preserved
loop-i-preserved g c =
    let a = c.args in
    let l = c.loop-i in
    let r = g.R.Record in
    let at = λ (i : ℕ). r.held a.image.now (a.start + r.WIDTH * i) in
    let read : read_in_turn r.number l.last (at l.i) ≡ Some c.in-Some.record = cc in
    let is =
    passed r.number r.OUT_OF_TURN (r.fault a.units.now) at l.i a.count l.last (omega arith) l.invariant.before_it l.invariant.rest c.in-Some.record read c.in_ok-check.ensures in
    record {
      read = rw (c.push.ensures, l.invariant.read, is.0) (sym (table_more at l.i));
      before_it = c.number-last.ensures ∙ rw is.0 (sym (before_more (λ (j : ℕ). r.number (at j)) l.i));
      rest = is.1;
    }
