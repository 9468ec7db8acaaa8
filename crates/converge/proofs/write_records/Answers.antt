-- `converge::write_records` meets its contract: at the loop's end a record stands at each place.
use Rattle.std.proofs.Common.{◌∙◌, sym, arith, rules}
use Rattle.std.proofs.Math.Seq.{ext_get_or}
use Rattle.converge.specs.Row.{records_of}
use Rattle.converge.proofs.Rows.{blank, records_length, records_more}
use Rattle.converge.proofs.write_records.Goals as goal

pub loop-i-preserved : goal.loop-i-preserved
loop-i-preserved c =
    let l = c.loop-i in
    record {
      size = search rules;
      so_far = records_more c.args.x.now c.args.y.now l.history l.i _ (grind arith) (grind arith) (grind arith) (grind arith) (grind arith) l.invariant.so_far;
    }

pub returns : goal.returns
returns c =
    let x = c.args.x.now in
    let y = c.args.y.now in
    let l = c.loop-i in
    ext_get_or blank l.history (records_of x y) (l.invariant.size ∙ sym (records_length x y (c.requires.0 ∙ sym c.requires.1)))
    (λ k b. l.invariant.so_far k (omega (arith, b, l.invariant.size, c.requires.0)))
