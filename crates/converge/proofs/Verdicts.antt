-- One verdict for each step, and exactly when: the number of an answer is that of the first line of the verdicts' table that holds. Assumes nothing.
use mathlib.Core.Path.{◌≡◌, refl, sym, ◌∙◌, subst}
use mathlib.Core.Bool.{Bool, true, false, cond, ◌&&◌}
use mathlib.Core.List.{List, [], ◌∷◌}
use mathlib.Core.Logic.{◌⊎◌, inl, inr, ◌↔◌}
use Prim.Native.Nat.{ℕ, zero, suc, ◌<◌, ◌≤◌}
use native.Mathlib.Omega.{arith}
use lib.Dec.{eqb}
use lib.ListN.{length, get_or}
use lib.Ieee.{Float, nan}
use borrow.Author.Tests.{eqb-true, eqb-false}
use Rattle.converge.specs.Doubles.{beyond}
use Rattle.converge.specs.Answer.{Answer, strayed, moved, refused}
use Rattle.converge.specs.Value.{close}
use Rattle.converge.specs.Row.{largest_of, all_close, nexts_of, stray_or, refusal_of, judged, verdict_of}
use Rattle.converge.specs.declared.History.{History}
use Rattle.converge.proofs.Flags.{true_false, false_true, either}
use Rattle.converge.proofs.Says.{Says, Some, here, later, none_here, neither, Line, line, First, first_one, first_line, passed_over, Inside, first_inside, says_eqb}
use Rattle.converge.proofs.Refusals.{Numbered, table, refusal_exactly, refusal_range}
use Rattle.converge.proofs.Accepted.{Accepted, accepted}

-- ---- the parts of an answer that is chosen by a test

number_cond : (b : Bool) (p q : Answer) → (cond b p q).number ≡ cond b p.number q.number
number_cond true p q = refl
number_cond false p q = refl

-- an answer with a verdict
abbrev Judges : Answer → Type 0
Judges a = a.refusal ≡ 0

stray_refusal : (vs : List Float) (a : Answer) → a.refusal ≡ 0 → (stray_or vs a).refusal ≡ 0
unfolding stray_or
stray_refusal [] a e = e
stray_refusal (v ∷ vs) a e = either Judges (beyond v) refl (stray_refusal vs a e)

-- Strayed where some next is beyond 1e12 in size
abbrev pub Beyond : Float → Type 0
Beyond v = beyond v ≡ true

stray_first : (vs : List Float) (top : Float) → First (line 3 (Some Beyond vs) ∷ []) 4 (stray_or vs (moved top)).number
unfolding stray_or
stray_first [] top = inr (none_here, refl)
stray_first (v ∷ vs) top = go (beyond v) refl (stray_first vs top)
  where
    go : (b : Bool) → beyond v ≡ b → First (line 3 (Some Beyond vs) ∷ []) 4 (stray_or vs (moved top)).number
        → First (line 3 (Some Beyond (v ∷ vs)) ∷ []) 4 (cond b (strayed v) (stray_or vs (moved top))).number
    go true e f = inl (here e, refl)
    go false e (inl f) = inl (later f.0, f.1)
    go false e (inr f) = inr (neither (λ h. true_false (sym h ∙ e)) f.0, f.1)

-- each value is close
abbrev pub EachClose : List Float → List Float → Float → Type 0
EachClose x y tolerance = (k : ℕ) → k < length x → k < length y → close (get_or x k nan) (get_or y k nan) tolerance ≡ true

says_close : (x y : List Float) (tolerance : Float) → Says (all_close x y tolerance) (EachClose x y tolerance)
unfolding all_close
says_close [] y t = record { holds = λ e k h g. absurd (omega (arith, h)); fails = λ e. true_false e }
says_close (a ∷ x) [] t = record { holds = λ e k h g. absurd (omega (arith, g)); fails = λ e. true_false e }
says_close (a ∷ x) (b ∷ y) t = go (close a b t) refl (says_close x y t)
  where
    each : close a b t ≡ true → EachClose x y t → EachClose (a ∷ x) (b ∷ y) t
    each e w zero h g = e
    each e w (suc k) h g = w k (omega arith) (omega arith)

    go : (c : Bool) → close a b t ≡ c → Says (all_close x y t) (EachClose x y t) → Says (c && all_close x y t) (EachClose (a ∷ x) (b ∷ y) t)
    go true e s = record { holds = λ f. each e (s.holds f); fails = λ f w. s.fails f (λ k h g. w (suc k) (omega (arith, h)) (omega (arith, g))) }
    go false e s = record { holds = λ f. false_true f; fails = λ f w. true_false (sym (w 0 (omega arith) (omega arith)) ∙ e) }

-- Settled where each value is close, else Spent where the count equals the limit, else Strayed where some next is beyond, else Moved
abbrev pub judgements : List Float → List Float → List History → ℕ → ℕ → Float → ℕ → List Line
judgements x y past count method tolerance limit =
    line 1 (EachClose x y tolerance) ∷ line 2 (count ≡ limit) ∷ line 3 (Some Beyond (nexts_of x y past count method)) ∷ []

module _ (x y : List Float) (past : List History) (count method : ℕ) (tolerance : Float) (limit : ℕ) where
  -- 0 where the step is refused
  abbrev pub verdicts : List Line
  verdicts = line 0 (refusal_of x y past count method tolerance limit ≡ 0 → ⊥) ∷ judgements x y past count method tolerance limit

  judged_refusal : (judged x y past count method tolerance limit).refusal ≡ 0
  unfolding judged
  judged_refusal =
      either Judges (all_close x y tolerance) refl
      (either Judges (eqb count limit) refl (stray_refusal (nexts_of x y past count method) (moved (largest_of x y)) refl))

  judged-first : First (judgements x y past count method tolerance limit) 4 (judged x y past count method tolerance limit).number
  unfolding judged
  judged-first =
      let t3 : List Line = line 3 (Some Beyond (nexts_of x y past count method)) ∷ [] in
      rw (number_cond (all_close x y tolerance), number_cond (eqb count limit))
      (first_line (all_close x y tolerance) 1 (line 2 (count ≡ limit) ∷ t3) 4 _ (says_close x y tolerance)
      (first_line (eqb count limit) 2 t3 4 _ (says_eqb count limit) (stray_first (nexts_of x y past count method) (largest_of x y))))

  -- An answer has the refusal that the table gives, and 0 with every verdict.
  verdict_refusal : (verdict_of x y past count method tolerance limit).refusal ≡ refusal_of x y past count method tolerance limit
  unfolding verdict_of
  verdict_refusal = go (refusal_of x y past count method tolerance limit) (eqb (refusal_of x y past count method tolerance limit) 0) refl
    where
      go : (r : ℕ) (b : Bool) → eqb r 0 ≡ b → (cond b (judged x y past count method tolerance limit) (refused r)).refusal ≡ r
      go r true e = judged_refusal ∙ sym (eqb-true r 0 e)
      go r false e = refl

  -- Each refusal is given exactly when its line is the first of 30 to 34 that holds, and none exactly when none does.
  pub refused_exactly : (n : ℕ)
      → ((verdict_of x y past count method tolerance limit).refusal ≡ n) ↔ First (table x y past count method tolerance limit) 0 n
  refused_exactly n =
      let r = refusal_exactly x y past count method tolerance limit n in
      (λ e. r.0 (sym verdict_refusal ∙ e), λ f. verdict_refusal ∙ r.1 f)

  number_first : First verdicts 4 (verdict_of x y past count method tolerance limit).number
  unfolding verdict_of
  number_first = go (refusal_of x y past count method tolerance limit) (eqb (refusal_of x y past count method tolerance limit) 0) refl
    where
      go : (r : ℕ) (b : Bool) → eqb r 0 ≡ b
          → First (line 0 (r ≡ 0 → ⊥) ∷ judgements x y past count method tolerance limit) 4
          (cond b (judged x y past count method tolerance limit) (refused r)).number
      go r true e = inr (λ n. n (eqb-true r 0 e), judged-first)
      go r false e = inl (eqb-false r 0 e, refl)

  -- Each verdict is given exactly when its line is the first that holds.
  pub number_exactly : (n : ℕ) → ((verdict_of x y past count method tolerance limit).number ≡ n) ↔ First verdicts 4 n
  number_exactly n = (λ e. subst (λ (k : ℕ). First verdicts 4 k) e number_first, first_one verdicts 4 _ n number_first)

  -- One verdict: a refusal from 30 to 34 and no number of a verdict, or a number from 1 to 4 and no refusal.
  pub one_verdict :
      (((verdict_of x y past count method tolerance limit).refusal ≡ 0)
      × (1 ≤ (verdict_of x y past count method tolerance limit).number)
      × ((verdict_of x y past count method tolerance limit).number ≤ 4))
      ⊎ ((30 ≤ (verdict_of x y past count method tolerance limit).refusal)
      × ((verdict_of x y past count method tolerance limit).refusal ≤ 34)
      × ((verdict_of x y past count method tolerance limit).number ≡ 0))
  one_verdict = go _ _ verdict_refusal number_first (refusal_range x y past count method tolerance limit)
    where
      inside : Inside 1 4 (judgements x y past count method tolerance limit) 4
      inside = (omega arith, omega arith, (omega arith, omega arith, (omega arith, omega arith, (omega arith, omega arith))))

      go : (r k : ℕ) → r ≡ refusal_of x y past count method tolerance limit → First verdicts 4 k → Numbered (refusal_of x y past count method tolerance limit)
          → ((r ≡ 0) × (1 ≤ k) × (k ≤ 4)) ⊎ ((30 ≤ r) × (r ≤ 34) × (k ≡ 0))
      go r k e (inl f) (inl g) = absurd (f.0 g)
      go r k e (inl f) (inr g) = inr (omega (arith, g.0), omega (arith, g.1), f.1)
      go r k e (inr f) (inl g) = let h = first_inside 1 4 (judgements x y past count method tolerance limit) 4 k inside f.1 in inl (e ∙ g, h.0, h.1)
      go r k e (inr f) (inr g) = absurd (f.0 (λ z. omega (arith, g.0, z)))

  -- A step that moved was accepted, below its limit, and none of its next values is beyond.
  moved_lines : (verdict_of x y past count method tolerance limit).number ≡ 4
      → (refusal_of x y past count method tolerance limit ≡ 0) × (count ≡ limit → ⊥) × (Some Beyond (nexts_of x y past count method) → ⊥)
  moved_lines e =
      let t3 : List Line = line 3 (Some Beyond (nexts_of x y past count method)) ∷ [] in
      let t2 : List Line = line 2 (count ≡ limit) ∷ t3 in
      let f0 = passed_over (line 1 (EachClose x y tolerance) ∷ t2) 4 4 (λ (z : 4 ≡ 0). omega arith) ((number_exactly 4).0 e) in
      let f1 = passed_over t2 4 4 (λ (z : 4 ≡ 1). omega arith) f0.1 in
      let f2 = passed_over t3 4 4 (λ (z : 4 ≡ 2). omega arith) f1.1 in
      let f3 = passed_over [] 4 4 (λ (z : 4 ≡ 3). omega arith) f2.1 in
      (zero_of _ f0.0, f2.0, f3.0)
    where
      zero_of : (r : ℕ) → ((r ≡ 0 → ⊥) → ⊥) → r ≡ 0
      zero_of zero f = refl
      zero_of (suc r) f = absurd (f (λ z. omega arith))

  pub moved_accepted : (verdict_of x y past count method tolerance limit).number ≡ 4 → Accepted x y past count method tolerance limit × (count < limit)
  moved_accepted e =
      let m = moved_lines e in
      let a = accepted x y past count method tolerance limit m.0 in
      let n = m.1 in
      (a, omega (arith, a.within))

  pub moved-within : (verdict_of x y past count method tolerance limit).number ≡ 4 → Some Beyond (nexts_of x y past count method) → ⊥
  moved-within e = (moved_lines e).2
