-- The statement settles everything: two results that it allows are equal, with every byte that was lent. Assumes nothing.
use mathlib.Core.List.{List}
use mathlib.Core.Path.{◌≡◌, sym, ◌∙◌}
use Prim.Native.Nat.{ℕ}
use Rattle.najmudhil.specs.Step.{Lent, BytesStep}

pub bytes_settled : (s : Lent) (r r' : ℕ) (x x' past past' count count' answer answer' : List ℕ)
    → BytesStep s r x past count answer → BytesStep s r' x' past' count' answer'
    → (r ≡ r') × (x ≡ x') × (past ≡ past') × (count ≡ count') × (answer ≡ answer')
bytes_settled s r r' x x' past past' count count' answer answer' k k' =
    (k.code ∙ sym k'.code, k.x ∙ sym k'.x, k.past ∙ sym k'.past, k.count ∙ sym k'.count, k.answer ∙ sym k'.answer)
