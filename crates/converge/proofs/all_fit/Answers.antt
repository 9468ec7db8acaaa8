-- What `all` answers is the rule of a row, in the library's words.
use Rattle.std.proofs.Common.{◌∙◌, rules, tests}
use Rattle.std.proofs.lemmas.Iterator.{YieldsList-from_slice}
use Rattle.std.proofs.lemmas.Iterator.Search.{all_from_yields_List}
use Rattle.converge.specs.Doubles.{usable}
use Rattle.converge.proofs.Chains.{usable_all}
use Rattle.converge.proofs.all_fit.Goals as goal

pub returns : goal.returns
returns c =
    let row = c.args.row.now in
    all_from_yields_List usable _ _ c.all.result c.all.ensures.ran (YieldsList-from_slice row cc) (λ x b q k. search (rules, tests)) ∙ usable_all row
