-- Two refusals are equal where their numbers are, and two answers where what is told of them is. What is told has a number in it, 0 for a value and else the refusal's, and the
-- value where there is one; a refusal is known by its number, which isn't 0. Assumes nothing.
use Rattle.std.proofs.Common.{◌≡◌, ℕ, Result, Ok, Err, sym, ap, ◌∙◌}

-- a refusal that can be had back from its number is told apart by it
pub by_number : {E : Type 0} (number : E → ℕ) (back : ℕ → E) → ((r : E) → back (number r) ≡ r) → (r s : E) → number r ≡ number s → r ≡ s
by_number number back is r s e = sym (is r) ∙ ap back e ∙ is s

module _ {A E T : Type 0} (number : E → ℕ) (one_refusal : (c d : E) → number c ≡ number d → c ≡ d) (number_some : (c : E) → number c ≡ 0 → ⊥)
    (told : Result A E → T) (number_in : T → ℕ) (value_in : T → A) (none : (a : A) → number_in (told (Ok a)) ≡ 0)
    (value : (a : A) → value_in (told (Ok a)) ≡ a) (refusal : (c : E) → number_in (told (Err c)) ≡ number c) where
  pub one_answer : (r s : Result A E) → told r ≡ told s → r ≡ s
  one_answer (Ok a) (Ok b) e = ap Ok (sym (value a) ∙ ap value_in e ∙ value b)
  one_answer (Ok a) (Err d) e = absurd (number_some d (sym (refusal d) ∙ sym (ap number_in e) ∙ none a))
  one_answer (Err c) (Ok b) e = absurd (number_some c (sym (refusal c) ∙ ap number_in e ∙ none b))
  one_answer (Err c) (Err d) e = ap Err (one_refusal c d (sym (refusal c) ∙ ap number_in e ∙ refusal d))
