-- Records: how many are read and rewritten, and the step of those that stand in two rows. Assumes nothing.
use mathlib.Core.Path.{◌≡◌, refl, sym, ◌∙◌, ap, subst}
use mathlib.Core.Bool.{Bool, true, false, not, ◌||◌}
use mathlib.Core.List.{List, map}
use Prim.Native.Nat.{ℕ, ◌<◌, ◌≤◌}
use native.Mathlib.Omega.{arith}
use lib.Dec.{eqb, ltb}
use lib.ListN.{length}
use lib.Ieee.{Float}
use borrow.Author.Tests.{eqb-true, eqb-false, ltb-false}
use Rattle.converge.specs.Answer.{Answer, refused, answer_of, number_of}
use Rattle.converge.specs.Row.{Stepped, kept, after, stepped, verdict_of, refused_or, refusal_of, rows_wrong, records_of}
use Rattle.converge.specs.Promise.{Rows as TwoRows, RowStep, HistoryStep, rows_of, rows_stepped}
use Rattle.converge.specs.declared.History.{History}
use Rattle.converge.specs.declared.Refusal.{Refusal}
use Rattle.converge.specs.declared.Refusal.TheVariants.{Rows}
use Rattle.converge.specs.declared.Verdict.{Verdict}
use Rattle.converge.specs.declared.Verdict.TheVariants.{Refused}
use Rattle.converge.proofs.Rows.{records_length, records_x, records_y}
use Rattle.converge.proofs.Lent.{stepped_answer, stepped_kept, stepped-moved, rows_level, rows_unlevel, decided_early}
use Rattle.converge.proofs.Verdicts.{moved_accepted}

-- ---- rows that 30 refuses

rows_wrong_lem : (a b c : ℕ) → (a ≡ c → 0 < a → a ≤ 16 → ⊥) → rows_wrong a b c ≡ true
unfolding rows_wrong
rows_wrong_lem a b c n = go (eqb a b) (eqb a c) (eqb a 0) (ltb 16 a) refl refl refl
  where
    go : (p q s t : Bool) → eqb a c ≡ q → eqb a 0 ≡ s → ltb 16 a ≡ t → (not p || (not q || (s || t))) ≡ true
    go true true false false e f g =
        let z : a ≡ 0 → ⊥ = eqb-false a 0 f in
        absurd (n (eqb-true a c e) (omega arith) (ltb-false 16 a g))
    go _ _ _ _ e f g = refl

wrong_kept : (x y : List Float) (past : List History) (count method : ℕ) (tolerance : Float) (limit : ℕ) → rows_wrong (length x) (length y) (length past) ≡ true
    → stepped x y past count method tolerance limit ≡ kept x past count (refused 30)
unfolding stepped after verdict_of refusal_of
wrong_kept x y past count method tolerance limit e = rw e

-- ---- how many are read and rewritten

module _ (x y : List Float) (past : List History) (count method : ℕ) (tolerance : Float) (limit : ℕ) where
  -- A row of over 16 records isn't read: the answer is 30, and all stays.
  pub readable_bounds : (r : Verdict) (x' : List Float) (past' : List History) (count' : ℕ) → 16 < length past
      → HistoryStep (stepped x y past count method tolerance limit) r x' past' count'
      → (answer_of r ≡ refused 30) × (x' ≡ x) × (past' ≡ past) × (count' ≡ count)
  readable_bounds r x' past' count' l k =
      let e = wrong_kept x y past count method tolerance limit (rows_wrong_lem (length x) (length y) (length past) (λ e p q. omega arith)) in (
        k.verdict ∙ ap (λ (s : Stepped). s.answer) e,
        k.x ∙ ap (λ (s : Stepped). s.x) e,
        k.past ∙ ap (λ (s : Stepped). s.past) e,
        k.count ∙ ap (λ (s : Stepped). s.count) e,
      )

  -- No more records than there are, and none but at Moved, are rewritten.
  pub rewritten_within : (r : Verdict) (x' : List Float) (past' : List History) (count' : ℕ)
      → HistoryStep (stepped x y past count method tolerance limit) r x' past' count'
      → (length past' ≡ length past) × (((answer_of r).number ≡ 4 → ⊥) → past' ≡ past)
  rewritten_within r x' past' count' k = go (eqb (answer_of r).number 4) refl
    where
      judged : answer_of r ≡ verdict_of x y past count method tolerance limit
      judged = k.verdict ∙ stepped_answer x y past count method tolerance limit

      go : (b : Bool) → eqb (answer_of r).number 4 ≡ b → (length past' ≡ length past) × (((answer_of r).number ≡ 4 → ⊥) → past' ≡ past)
      go true e =
          let n = eqb-true _ _ e in
          let m = sym (ap (λ (a : Answer). a.number) judged) ∙ n in
          let a = (moved_accepted x y past count method tolerance limit m).0 in
          let f = k.past ∙ ap (λ (s : Stepped). s.past) (stepped-moved x y past count method tolerance limit m) in
          (ap length f ∙ records_length x y a.level ∙ a.recorded, λ h. absurd (h n))
      go false e =
          let n = eqb-false _ _ e in
          let f = k.past ∙ ap (λ (s : Stepped). s.past) (stepped_kept x y past count method tolerance limit (λ m. n (ap (λ (a : Answer). a.number) judged ∙ m))) in
          (ap length f, λ h. f)

-- ---- the step with its records in two rows

module _ (x y px py : List Float) (count method : ℕ) (tolerance : Float) (limit : ℕ) where
  -- the two rows are not of one length, or have over 16 values
  pub rows_refused : (length px ≡ length py → length px ≤ 16 → ⊥)
      → RowStep (rows_stepped x y px py count method tolerance limit) (Refused Rows) x px py count
  rows_refused n = go (eqb (length px) (length py)) refl
    where
      go : (b : Bool) → eqb (length px) (length py) ≡ b → RowStep (rows_stepped x y px py count method tolerance limit) (Refused Rows) x px py count
      go true q =
          let l : length px ≡ length py = eqb-true _ _ q in
          let r = records_length px py l in
          let w = rows_wrong_lem (length x) (length y) (length (records_of px py)) (λ (e : length x ≡ length (records_of px py)) p f. n l (omega arith)) in
          let k = rows_level x y px py count method tolerance limit l ∙ ap rows_of (wrong_kept x y (records_of px py) count method tolerance limit w) in
          subst (λ (s : TwoRows). RowStep s (Refused Rows) x px py count) (sym k)
          (record { verdict = refl; x = refl; past_x = sym (records_x px py l); past_y = sym (records_y px py l); count = refl })
      go false q =
          subst (λ (s : TwoRows). RowStep s (Refused Rows) x px py count) (sym (rows_unlevel x y px py count method tolerance limit (eqb-false _ _ q)))
          (record { verdict = refl; x = refl; past_x = refl; past_y = refl; count = refl })

  -- the two rows made the records that were stepped, and hold what those hold after it
  pub rows_step : (past past' : List History) (r : Verdict) (x' px' py' : List Float) (count' : ℕ) → length px ≡ length py → past ≡ records_of px py
      → HistoryStep (stepped x y past count method tolerance limit) r x' past' count'
      → px' ≡ map (λ (p : History). p.x) past' → py' ≡ map (λ (p : History). p.y) past'
      → RowStep (rows_stepped x y px py count method tolerance limit) r x' px' py' count'
  rows_step past past' r x' px' py' count' l e k fx fy =
      let s = subst (λ (h : List History). HistoryStep (stepped x y h count method tolerance limit) r x' past' count') e k in
      subst (λ (s : TwoRows). RowStep s r x' px' py' count') (sym (rows_level x y px py count method tolerance limit l))
      (record {
        verdict = s.verdict;
        x = s.x;
        past_x = fx ∙ ap (map (λ (p : History). p.x)) s.past;
        past_y = fy ∙ ap (map (λ (p : History). p.y)) s.past;
        count = s.count;
      })

  -- all stays, at a verdict but Moved and at what is refused before a record is read
  pub rows_stay : (r : Verdict) → length px ≡ length py → HistoryStep (stepped x y (records_of px py) count method tolerance limit) r x (records_of px py) count
      → RowStep (rows_stepped x y px py count method tolerance limit) r x px py count
  rows_stay r l k = rows_step _ _ r _ _ _ _ l refl k (sym (records_x px py l)) (sym (records_y px py l))

  pub rows_early : (r : Refusal) → length px ≡ length py → refused_or x y (length px) method tolerance limit 0 ≡ number_of r
      → RowStep (rows_stepped x y px py count method tolerance limit) (Refused r) x px py count
  rows_early r l e =
      let n = sym (records_length px py l) in
      rows_stay (Refused r) l
      (decided_early x y (records_of px py) count method tolerance limit r (subst (λ (k : ℕ). refused_or x y k method tolerance limit 0 ≡ number_of r) n e))
