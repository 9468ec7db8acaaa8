-- What reading one record of a table tells of the number for the whole table. Assumes nothing.
use Rattle.std.proofs.Common.{◌≡◌, ℕ, zero, suc, ◌+◌, ◌-◌, ◌<◌, Bool, true, false, cond, Option, Some, None, Err, refl, sym, ap, ◌∙◌, arith}
use Rattle.std.proofs.lemmas.Option.{cond_some}
use Rattle.flowsheet.specs.Answers.{number_of}
use Rattle.flowsheet.specs.Image.{first, first_from, before, answered, fault_at}
use Rattle.flowsheet.specs.Sheet.{in_turn, number_fault}
use Rattle.flowsheet.specs.declared.Refusal.{Refusal}
use Rattle.flowsheet.specs.declared.Refusal.TheVariants.{Short}
use Rattle.flowsheet.proofs.First.{first_given, first_step}

-- a refusal has a number
pub number_some : (r : Refusal) → number_of r ≡ 0 → ⊥
number_some Short e = omega arith
number_some _ e = omega arith

pub answered_err : {A : Type 0} (r : Refusal) (k : ℕ) (a : A) → k ≡ number_of r → answered k a ≡ Err (number_of r)
answered_err r k a e = rw e (go (number_of r) (number_some r))
  where
    go : (n : ℕ) → (n ≡ 0 → ⊥) → answered n a ≡ Err n
    go zero f = absurd (f refl)
    go (suc n) f = refl

-- a record that is read only where its number is in turn
abbrev pub read_in_turn : {A : Type 0} → (A → ℕ) → ℕ → A → Option A
read_in_turn number last x = cond (in_turn (number x) last) (Some x) None

not_read : {A : Type 0} (b : Bool) (x : A) → cond b (Some x) None ≡ None → b ≡ false
not_read false x e = refl
not_read true x e = absurd (cc)

-- of a table whose places before i have no fault, after the number last
module _ {A : Type 0} (number : A → ℕ) (k : ℕ) (fault : A → ℕ) (at : ℕ → A) (i n last : ℕ) (h : i < n)
    (is : last ≡ before (λ (j : ℕ). number (at j)) i)
    (rest : first_from (fault_at number k fault at) 0 n ≡ first_from (fault_at number k fault at) i (n - i)) where
  record_first : (m : ℕ) → first (number_fault (number (at i)) last k) (fault (at i)) ≡ m
      → first_from (fault_at number k fault at) 0 n ≡ first m (first_from (fault_at number k fault at) (i + 1) (n - (i + 1)))
  record_first m e =
      rest ∙ first_step (fault_at number k fault at) i n h
      ∙ ap (λ (x : ℕ). first x (first_from (fault_at number k fault at) (i + 1) (n - (i + 1)))) (rw (← is) e)

  pub out_of_turn : read_in_turn number last (at i) ≡ None → (k ≡ 0 → ⊥) → first_from (fault_at number k fault at) 0 n ≡ k
  unfolding number_fault
  out_of_turn e some =
      record_first k (rw (not_read (in_turn (number (at i)) last) (at i) e) (first_given k _ some)) ∙ first_given k _ some

  pub refused : (x : A) → read_in_turn number last (at i) ≡ Some x → (m : ℕ) → m ≡ fault x → (m ≡ 0 → ⊥) → first_from (fault_at number k fault at) 0 n ≡ m
  unfolding number_fault
  refused x e m f some =
      let r = cond_some (in_turn (number (at i)) last) (at i) x e in
      record_first m (rw r.0 (ap fault r.1 ∙ sym f)) ∙ first_given m _ some

  pub passed : (x : A) → read_in_turn number last (at i) ≡ Some x → 0 ≡ fault x
      → (x ≡ at i) × (first_from (fault_at number k fault at) 0 n ≡ first_from (fault_at number k fault at) (i + 1) (n - (i + 1)))
  unfolding number_fault
  passed x e f =
      let r = cond_some (in_turn (number (at i)) last) (at i) x e in
      (sym r.1, record_first 0 (rw r.0 (ap fault r.1 ∙ sym f)))
