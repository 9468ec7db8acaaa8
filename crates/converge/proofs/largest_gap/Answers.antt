-- The largest of the gaps, in the library's words.
use Rattle.std.proofs.Common.{◌∙◌, ap, Option, Float, rules, tests}
use Rattle.std.specs.Option.{unwrap_or}
use Rattle.std.proofs.lemmas.Iterator.{YieldsList-from_slice, YieldsList-from_zip, YieldsList-from_map}
use Rattle.converge.specs.Doubles.{zero64, larger}
use Rattle.converge.specs.Value.{gap_of}
use Rattle.converge.proofs.Chains.{largest_reduce, reduced}
use Rattle.converge.proofs.largest_gap.Goals as goal

pub returns : goal.returns
returns c =
    let x = c.args.x.now in
    let y = c.args.y.now in
    let e = reduced _ _ larger _ (λ a d b q k. search (rules, tests)) c.reduce.result c.reduce.ensures.ran
    (YieldsList-from_map _ (λ (p : Float × Float). gap_of p.0 p.1)
    (YieldsList-from_zip (YieldsList-from_slice x cc) (YieldsList-from_slice y cc)) c.map.ensures.closure (λ p r q k. search (rules, tests))) in
    c.unwrap_or.ensures ∙ ap (λ (o : Option Float). unwrap_or o zero64) e ∙ largest_reduce x y
