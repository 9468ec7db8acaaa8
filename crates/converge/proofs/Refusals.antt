-- Each refusal is given exactly when the table says: its test is read as the table's words, and the first of the five that holds is given. Assumes nothing.
use mathlib.Core.Path.{◌≡◌, refl, sym, ◌∙◌, subst}
use mathlib.Core.Bool.{Bool, true, false, not, cond}
use mathlib.Core.List.{List, [], ◌∷◌}
use mathlib.Core.Logic.{◌⊎◌, inl, inr, ⊎_elim, ◌↔◌}
use Prim.Native.Nat.{ℕ, ◌<◌, ◌≤◌}
use native.Mathlib.Omega.{arith}
use lib.ListN.{length}
use lib.Ieee.{Float, fin, le, lt, eq, of_bits, is_nan}
use lib.Ieee.Scale.{finite}
use Rattle.converge.specs.Doubles.{finest, coarsest, bound, mag, usable, beyond}
use Rattle.converge.specs.Value.{usable_record}
use Rattle.converge.specs.Row.{usable_row, usable_records, rows_wrong, tolerance_wrong, limit_wrong, values_wrong, records_wrong, refusal_of}
use Rattle.converge.specs.declared.History.{History}
use Rattle.converge.proofs.Flags.{true_false, false_true}
use Rattle.converge.proofs.Sizes.{not_le}
use Rattle.converge.proofs.Says.{Says, Some, none_here, says_some, Line, line, First, first_line, first_one, says_eqb, says_ltb, says_no_flag, says_not, says_or, says_and, says_nand}

-- ---- the table's words

-- not finite or beyond 1e12 in size
abbrev pub Unfit : Float → Type 0
Unfit v = (finite v ≡ false) ⊎ (beyond v ≡ true)

-- 30: rows of unequal length, empty or over 16
abbrev pub Rows30 : List Float → List Float → List History → Type 0
Rows30 x y past =
    (length x ≡ length y → ⊥) ⊎ ((length x ≡ length past → ⊥) ⊎ ((length x ≡ 0) ⊎ (16 < length x)))

-- 31: tolerance not from 1e-12 to 0.1
abbrev pub Tolerance31 : Float → Type 0
Tolerance31 tolerance = (le finest tolerance ≡ false) ⊎ (le tolerance coarsest ≡ false)

-- 32: limit not 1 to 500, or method unknown
abbrev pub Limit32 : ℕ → ℕ → Type 0
Limit32 limit method = (limit ≡ 0) ⊎ ((500 < limit) ⊎ ((method ≡ 1 → ⊥) × (method ≡ 2 → ⊥)))

-- 33: an x or y not finite or beyond 1e12 in size
abbrev pub Values33 : List Float → List Float → Type 0
Values33 x y = Some Unfit x ⊎ Some Unfit y

-- 34: count over limit, or at count over 0 a record value not finite or beyond 1e12
abbrev pub Records34 : List History → ℕ → ℕ → Type 0
Records34 past count limit = (limit < count) ⊎ ((0 < count) × Some (λ (p : History). Unfit p.x ⊎ Unfit p.y) past)

-- 30 to 34 in order
abbrev pub table : List Float → List Float → List History → ℕ → ℕ → Float → ℕ → List Line
table x y past count method tolerance limit =
    line 30 (Rows30 x y past)
    ∷ line 31 (Tolerance31 tolerance)
    ∷ line 32 (Limit32 limit method)
    ∷ line 33 (Values33 x y)
    ∷ line 34 (Records34 past count limit)
    ∷ []

-- no refusal, or a number from 30 to 34
abbrev pub Numbered : ℕ → Type 0
Numbered n = (n ≡ 0) ⊎ ((30 ≤ n) × (n ≤ 34))

-- ---- each test says them

pub says_unfit : (v : Float) → Says (not (usable v)) (Unfit v)
unfolding usable beyond is_nan mag le lt eq of_bits
says_unfit (fin s m e) =
    let n : not (le (fin false m e) bound) ≡ lt bound (fin false m e) = not_le (fin false m e) bound tt tt in
    record { holds = λ h. inr (sym n ∙ h); fails = λ h. ⊎_elim true_false (λ g. true_false (sym g ∙ sym n ∙ h)) }
says_unfit _ = record { holds = λ e. inl refl; fails = λ e. true_false e }

says_row : (row : List Float) → Says (not (usable_row row)) (Some Unfit row)
unfolding usable_row
says_row [] = record { holds = λ e. false_true e; fails = λ e. none_here }
says_row (v ∷ row) = says_some (usable v) (usable_row row) (says_unfit v) (says_row row)

says_records : (past : List History) → Says (not (usable_records past)) (Some (λ (p : History). Unfit p.x ⊎ Unfit p.y) past)
unfolding usable_records usable_record
says_records [] = record { holds = λ e. false_true e; fails = λ e. none_here }
says_records (p ∷ past) =
    says_some (usable_record p) (usable_records past)
    (says_nand (usable p.x) (usable p.y) (says_unfit p.x) (says_unfit p.y)) (says_records past)

module _ (x y : List Float) (past : List History) (count method : ℕ) (tolerance : Float) (limit : ℕ) where
  says_30 : Says (rows_wrong (length x) (length y) (length past)) (Rows30 x y past)
  unfolding rows_wrong
  says_30 =
      says_or _ _ (says_not _ (says_eqb (length x) (length y)))
      (says_or _ _ (says_not _ (says_eqb (length x) (length past))) (says_or _ _ (says_eqb (length x) 0) (says_ltb 16 (length x))))

  says_31 : Says (tolerance_wrong tolerance) (Tolerance31 tolerance)
  unfolding tolerance_wrong
  says_31 = says_or _ _ (says_no_flag (le finest tolerance)) (says_no_flag (le tolerance coarsest))

  says_32 : Says (limit_wrong limit method) (Limit32 limit method)
  unfolding limit_wrong
  says_32 =
      says_or _ _ (says_eqb limit 0)
      (says_or _ _ (says_ltb 500 limit) (says_and _ _ (says_not _ (says_eqb method 1)) (says_not _ (says_eqb method 2))))

  says_33 : Says (values_wrong x y) (Values33 x y)
  unfolding values_wrong
  says_33 = says_or _ _ (says_row x) (says_row y)

  says_34 : Says (records_wrong past count limit) (Records34 past count limit)
  unfolding records_wrong
  says_34 = says_or _ _ (says_ltb limit count) (says_and _ _ (says_ltb 0 count) (says_records past))

  pub refusal_range : Numbered (refusal_of x y past count method tolerance limit)
  unfolding refusal_of
  refusal_range =
      go (rows_wrong (length x) (length y) (length past)) (tolerance_wrong tolerance) (limit_wrong limit method) (values_wrong x y)
      (records_wrong past count limit)
    where
      go : (a b c d e : Bool) → Numbered (cond a 30 (cond b 31 (cond c 32 (cond d 33 (cond e 34 0)))))
      go false false false false false = inl refl
      go _ _ _ _ _ = inr (omega arith, omega arith)

  refusal_first : First (table x y past count method tolerance limit) 0 (refusal_of x y past count method tolerance limit)
  unfolding refusal_of
  refusal_first =
      let t34 : List Line = line 34 (Records34 past count limit) ∷ [] in
      let t33 : List Line = line 33 (Values33 x y) ∷ t34 in
      let t32 : List Line = line 32 (Limit32 limit method) ∷ t33 in
      let t31 : List Line = line 31 (Tolerance31 tolerance) ∷ t32 in
      first_line _ 30 t31 0 _ says_30
      (first_line _ 31 t32 0 _ says_31
      (first_line _ 32 t33 0 _ says_32 (first_line _ 33 t34 0 _ says_33 (first_line _ 34 [] 0 0 says_34 refl))))

  -- Each number is given exactly when its line is the first of the table that holds, and 0 when none does.
  pub refusal_exactly : (n : ℕ) → (refusal_of x y past count method tolerance limit ≡ n) ↔ First (table x y past count method tolerance limit) 0 n
  refusal_exactly n = (
    λ e. subst (λ (k : ℕ). First (table x y past count method tolerance limit) 0 k) e refusal_first,
    first_one (table x y past count method tolerance limit) 0 _ n refusal_first,
  )
