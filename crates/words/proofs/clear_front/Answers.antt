-- The front is filled with zeros, as many as it has bytes.
use Rattle.std.proofs.Common.{arith}
use Rattle.words.proofs.Cleared.{filled_front}
use Rattle.words.proofs.clear_front.Goals as goal

pub returns : goal.returns
returns c = filled_front _ _ _ c.requires (omega arith) (c.fill.ensures.after (λ y e. e))
