-- What `all` answers is the rule of a row of records, in the library's words.
use Rattle.std.proofs.Common.{◌∙◌, rules, tests}
use Rattle.std.proofs.lemmas.Iterator.{YieldsList-from_slice}
use Rattle.std.proofs.lemmas.Iterator.Search.{all_from_yields_List}
use Rattle.converge.specs.Value.{usable_record}
use Rattle.converge.proofs.Chains.{usable_records_all}
use Rattle.converge.proofs.all_fit_records.Goals as goal

pub returns : goal.returns
returns c =
    let past = c.args.history.now in
    all_from_yields_List usable_record _ _ c.all.result c.all.ensures.ran (YieldsList-from_slice past cc) (λ x b q k. search (rules, tests)) ∙ usable_records_all past
