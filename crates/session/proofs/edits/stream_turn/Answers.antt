-- What `position` finds is the place to go, in the library's words.
use Rattle.std.proofs.Common.{Bool, ltb, rules, tests, ◌∙◌}
use Rattle.std.proofs.lemmas.Iterator.{YieldsList-from_slice}
use Rattle.std.proofs.lemmas.Iterator.Search.{position_from_yields_List}
use Rattle.flowsheet.specs.declared.Stream.{Stream}
use Rattle.session.proofs.Places.{first_or_end}
use Rattle.session.specs.Edited.{stream_turn}
use Rattle.session.proofs.edits.stream_turn.Goals as goal

pub returns : goal.returns
unfolding stream_turn
returns c =
    let above : Stream → Bool = λ s. ltb c.args.number s.number in
    let found =
    position_from_yields_List above _ _ c.position.result c.position.ensures.ran
    (YieldsList-from_slice c.args.streams.now cc) (λ x b q k. search (rules, tests)) in
    rw found at c.unwrap_or.ensures ∙ first_or_end above c.args.streams.now
