-- What `all` answers of the pairs is the rule of two rows, in the library's words.
use Rattle.std.proofs.Common.{◌∙◌, Float, rules, tests}
use Rattle.std.proofs.lemmas.Iterator.{YieldsList-from_slice, YieldsList-from_zip}
use Rattle.std.proofs.lemmas.Iterator.Search.{all_from_yields_List}
use Rattle.converge.specs.Value.{close}
use Rattle.converge.proofs.Chains.{close_all}
use Rattle.converge.proofs.all_close.Goals as goal

pub returns : goal.returns
returns c =
    let x = c.args.x.now in
    let y = c.args.y.now in
    let t = c.args.tolerance in
    all_from_yields_List (λ (p : Float × Float). close p.0 p.1 t) c.all.new.self _ c.all.result c.all.ensures.ran
    (YieldsList-from_zip (YieldsList-from_slice x cc) (YieldsList-from_slice y cc)) (λ p b q k. search (rules, tests))
    ∙ close_all x y t
