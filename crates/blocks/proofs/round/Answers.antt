-- A row that reaches `k` is joined to what `k` reaches, and the others stay. Assumes nothing.
use Rattle.std.proofs.Common.{◌≡◌, ◌<◌, ◌∙◌, sym, arith, length, refl}
use Rattle.blocks.proofs.Turns.{turned_joins, turned_stays, turned_all}
use Rattle.blocks.proofs.round.Goals as goal
use Rattle.blocks.proofs.round.Goals.{then-has, else-has}

pub loop-row-preserved : goal.loop-row-preserved
loop-row-preserved c =
    let a = c.args in
    let l = c.loop-row in
    let t = a.rows.now in
    let i = l.row-index in
    let h : i < length t = omega arith in
    let has = sym c.has.ensures in
    record {
      onward = refl;
      turned = elim c.if-has.branch [
        | then-has w ↦ rw w.rows-is (turned_joins a.k t l.rows i h l.invariant.turned _ l.invariant.onward (has ∙ w.if-has.true))
        | else-has w ↦ rw w.rows-is (turned_stays a.k t l.rows i h l.invariant.turned (has ∙ w.if-has.false))
      ];
    }

pub returns : goal.returns
returns c =
    let l = c.loop-row in
    let e : l.row-index ≡ length c.args.rows.now = omega arith in
    turned_all c.args.k c.args.rows.now l.rows (rw e at l.invariant.turned)
