-- What each function answers and leaves is settled, for every width: two results that a statement allows are equal. Assumes nothing.
use Rattle.std.proofs.Common.{◌≡◌, ℕ, List, sym, ◌∙◌}
use Rattle.words.specs.Words.{number_at, with_number, with_numbers, cleared}

pub at_settled : (width : ℕ) (row : List ℕ) (at r s : ℕ) → r ≡ number_at width row at → s ≡ number_at width row at → r ≡ s
at_settled width row at r s p q = p ∙ sym q

module _ (row r s : List ℕ) where
  pub put_settled : (width at number : ℕ) → r ≡ with_number width row at number → s ≡ with_number width row at number → r ≡ s
  put_settled width at number p q = p ∙ sym q

  pub put_numbers_settled : (at : ℕ) (numbers : List ℕ) → r ≡ with_numbers row at numbers → s ≡ with_numbers row at numbers → r ≡ s
  put_numbers_settled at numbers p q = p ∙ sym q

  pub clear_front_settled : (count : ℕ) → r ≡ cleared row count → s ≡ cleared row count → r ≡ s
  clear_front_settled count p q = p ∙ sym q
