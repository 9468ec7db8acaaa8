-- What is returned, exactly: 0 or a number from 30 to 34, each when its line is the first of the table that holds. The lengths come
-- before all else; the other lines are those of the step by value. Assumes nothing.
use mathlib.Core.Bool.{true}
use mathlib.Core.List.{List, [], ◌∷◌}
use mathlib.Core.Logic.{◌⊎◌, inl, inr, ◌↔◌}
use mathlib.Core.Path.{◌≡◌, refl, sym, ◌∙◌, ap, subst}
use Prim.Native.Nat.{ℕ}
use native.Mathlib.Omega.{arith}
use lib.Ieee.{Float, binary64, of_bits, nan_bits}
use lib.Ieee.Bits.{nan_bits_is}
use lib.ListN.{length}
use Rattle.converge.specs.Answer.{Answer}
use Rattle.converge.specs.declared.History.{History}
use Rattle.words.specs.Words.{number_at}
use Rattle.converge.proofs.Refusals.{Unfit, Rows30, Tolerance31, Limit32, Values33, Records34}
use Rattle.converge.proofs.Says.{Says, Line, line, First, first_one, passed_over, here, says_eqb, says_not, says_or}
use Rattle.converge.proofs.Verdicts.{refused_exactly}
use Rattle.najmudhil.specs.Step.{Lent, double_at, record_in, lengths_wrong}
use Rattle.najmudhil.proofs.Lent.{Handed, held, out, xs, ys, records, moves, held_answer, ways}
use Rattle.najmudhil.proofs.Patterns.{is_nan_lem}

-- 30: a wrong length
abbrev pub Lengths30 : ℕ → ℕ → ℕ → ℕ → Type 0
Lengths30 x past count answer = (x ≡ 8 → ⊥) ⊎ ((past ≡ 16 → ⊥) ⊎ ((count ≡ 2 → ⊥) ⊎ (answer ≡ 9 → ⊥)))

says_lengths : (x past count answer : ℕ) → Says (lengths_wrong x past count answer) (Lengths30 x past count answer)
unfolding lengths_wrong
says_lengths x past count answer =
    says_or _ _ (says_not _ (says_eqb x 8))
    (says_or _ _ (says_not _ (says_eqb past 16)) (says_or _ _ (says_not _ (says_eqb count 2)) (says_not _ (says_eqb answer 9))))

-- 31 to 34 in order, of one value
abbrev pub value_table : Float → Float → History → ℕ → ℕ → Float → ℕ → List Line
value_table x y past count method tolerance limit =
    line 31 (Tolerance31 tolerance)
    ∷ line 32 (Limit32 limit method)
    ∷ line 33 (Values33 (x ∷ []) (y ∷ []))
    ∷ line 34 (Records34 (past ∷ []) count limit)
    ∷ []

-- rows of one value are of equal length, not empty and not over 16
one_value : (x y : Float) (past : History) → Rows30 (x ∷ []) (y ∷ []) (past ∷ []) → ⊥
one_value x y past (inl f) = f refl
one_value x y past (inr (inl f)) = f refl
one_value x y past (inr (inr (inl f))) = omega (arith, f)
one_value x y past (inr (inr (inr f))) = omega (arith, f)

-- a line that never holds
no_line : {P : Type 0} {k : ℕ} (t : List Line) (d n : ℕ) → (P → ⊥) → First (line k P ∷ t) d n → First t d n
no_line t d n h (inl f) = absurd (h f.0)
no_line t d n h (inr f) = f.1

module _ (h : Handed) where
  -- 31 to 34 in order, of what the bytes hold
  abbrev pub held_codes : List Line
  held_codes = value_table (double_at h.x 0) h.y (record_in h.past) (moves h) h.method h.tolerance h.limit

  -- 30 to 34 in order, the lengths before all else
  abbrev pub codes : List Line
  codes = line 30 (Lengths30 (length h.x) (length h.past) (length h.count) (length h.answer)) ∷ held_codes

  held_first : First held_codes 0 (held h).answer.refusal
  held_first =
      no_line held_codes 0 _ (one_value (double_at h.x 0) h.y (record_in h.past))
      ((refused_exactly (xs h) (ys h) (records h) (moves h) h.method h.tolerance h.limit _).0 (sym (ap (λ (a : Answer). a.refusal) (held_answer h))))

  -- where the step by value isn't refused, x is fit
  pub accepted_fit : (held h).answer.refusal ≡ 0 → Unfit (double_at h.x 0) → ⊥
  accepted_fit z u =
      let t34 : List Line = line 34 (Records34 (records h) (moves h) h.limit) ∷ [] in
      let t33 : List Line = line 33 (Values33 (xs h) (ys h)) ∷ t34 in
      let f0 = subst (λ (n : ℕ). First (line 31 (Tolerance31 h.tolerance) ∷ line 32 (Limit32 h.limit h.method) ∷ t33) 0 n) z held_first in
      let f1 = passed_over (line 32 (Limit32 h.limit h.method) ∷ t33) 0 0 (λ (e : ◌≡◌ {A = ℕ} 0 31). omega arith) f0 in
      let f2 = passed_over t33 0 0 (λ (e : ◌≡◌ {A = ℕ} 0 32). omega arith) f1.1 in
      let f3 = passed_over t34 0 0 (λ (e : ◌≡◌ {A = ℕ} 0 33). omega arith) f2.1 in
      f3.0 (inl (here u))

  code_first : First codes 0 (out h).code
  code_first =
      let s = says_lengths (length h.x) (length h.past) (length h.count) (length h.answer) in
      let none = λ (z : (held h).answer.refusal ≡ 0). subst (λ (n : ℕ). First held_codes 0 n) z held_first in
      ways h (λ (l : Lent). First codes 0 l.code) (λ w. inl (s.holds w, refl)) (λ w k. inr (s.fails w, held_first)) (λ w z k. inr (s.fails w, none z))
      (λ w z k. inr (s.fails w, none z))

  -- Each number is returned exactly when its line is the first of 30 to 34 that holds, and 0 exactly when none does.
  pub code_exactly : (n : ℕ) → ((out h).code ≡ n) ↔ First codes 0 n
  code_exactly n = (λ e. subst (λ (k : ℕ). First codes 0 k) e code_first, first_one codes 0 _ n code_first)

-- Bytes that are a NaN's pattern are unfit: an x of them is 33, and a record at a count over 0 is 34.
pub nan_unfit : (l : List ℕ) (at : ℕ) → nan_bits binary64 (number_at 8 l at) ≡ true → Unfit (double_at l at)
unfolding double_at
nan_unfit l at e = rw (is_nan_lem (of_bits binary64 (number_at 8 l at)) (sym (nan_bits_is binary64 (number_at 8 l at)) ∙ e)) (inl refl)
