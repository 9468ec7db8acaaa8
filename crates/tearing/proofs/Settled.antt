-- Any two results that the contract of `order` allows are equal, with all that they leave in the working memory; and what it answers is the
-- order that rule 3 chooses. Assumes nothing.
use mathlib.Core.Path.{◌≡◌, sym, ◌∙◌}
use mathlib.Core.List.{List}
use Prim.Native.Nat.{ℕ}
use Rattle.tearing.specs.Order.{Chosen}
use Rattle.tearing.specs.Row.{weights}
use Rattle.tearing.specs.Answer.{Ordered}
use Rattle.tearing.proofs.Chosen.{chosen}

pub settled : (w : List ℕ) (n : ℕ) (before : List ℕ) {after after' r r' : List ℕ}
    → Ordered w n before after r → Ordered w n before after' r' → (r ≡ r') × (after ≡ after')
settled w n before a b = (a.order ∙ sym b.order, a.work ∙ sym b.work)

pub ordered_chosen : (w : List ℕ) (n : ℕ) {before after r : List ℕ} → Ordered w n before after r → Chosen (weights w) n r
ordered_chosen w n a = rw a.order (chosen (weights w) n)
