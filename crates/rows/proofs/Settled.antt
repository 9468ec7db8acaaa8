-- What each public function answers and leaves is settled: two results that its statement allows are equal. A row is its items. Assumes nothing.
use Rattle.std.proofs.Common.{◌≡◌, ℕ, Bool, List, [], ◌∷◌, ◌++◌, set, sym, ◌∙◌}
use Rattle.std.specs.Cmp.Lexicographic.{pointwise}
use Rattle.std.specs.List.{insert, remove}

module _ {A : Type 0} where
  pub blank_settled : (blank r s : A) → r ≡ blank → s ≡ blank → r ≡ s
  blank_settled blank r s p q = p ∙ sym q

  pub new_settled : (r s : List A) → r ≡ [] → s ≡ [] → r ≡ s
  new_settled r s p q = p ∙ sym q

  module _ (row : List A) (r s : List A) where
    pub items_settled : r ≡ row → s ≡ row → r ≡ s
    items_settled p q = p ∙ sym q

    pub clone_settled : r ≡ row → s ≡ row → r ≡ s
    clone_settled p q = p ∙ sym q

    pub push_settled : (item : A) → r ≡ row ++ (item ∷ []) → s ≡ row ++ (item ∷ []) → r ≡ s
    push_settled item p q = p ∙ sym q

    pub extend_settled : (items : List A) → r ≡ row ++ items → s ≡ row ++ items → r ≡ s
    extend_settled items p q = p ∙ sym q

    pub set_settled : (at : ℕ) (item : A) → r ≡ set row at item → s ≡ set row at item → r ≡ s
    set_settled at item p q = p ∙ sym q

    pub insert_settled : (at : ℕ) (item : A) → r ≡ insert row at item → s ≡ insert row at item → r ≡ s
    insert_settled at item p q = p ∙ sym q

    pub remove_settled : (at : ℕ) → r ≡ remove row at → s ≡ remove row at → r ≡ s
    remove_settled at p q = p ∙ sym q

  pub eq_settled : (eq : A → A → Bool) (row other : List A) (r s : Bool) → r ≡ pointwise eq row other → s ≡ pointwise eq row other → r ≡ s
  eq_settled eq row other r s p q = p ∙ sym q
