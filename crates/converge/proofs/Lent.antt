-- What is lent, after a step: on Moved the next values, this x and y and one more; at every other answer all as it stood. Assumes nothing.
use mathlib.Core.Path.{◌≡◌, refl, sym, ◌∙◌, ap, subst}
use mathlib.Core.Bool.{Bool, true, false, cond}
use mathlib.Core.List.{List, [], ◌∷◌}
use Prim.Native.Nat.{ℕ, ◌+◌, ◌<◌}
use native.Mathlib.Omega.{arith}
use lib.Dec.{eqb}
use lib.ListN.{length, get_or}
use lib.Ieee.{Float}
use borrow.Author.Tests.{eqb-false, eq-eqb, ne_eqb}
use Rattle.std.proofs.Common.{Option, None, Some}
use Rattle.std.specs.List.{find}
use Rattle.std.specs.Option.{option_map_or}
use Rattle.converge.specs.Answer.{Answer, number_of, settled, spent, moved, refused, answer_of}
use Rattle.converge.specs.Doubles.{beyond}
use Rattle.converge.specs.Row.{Stepped, kept, after, stepped, all_close, largest_of, stray_or, Settles, nexts_of, records_of, records_wrong, refused_or, refusal_of, judged, verdict_of}
use Rattle.converge.specs.Promise.{ValueStep, HistoryStep, Moves, value_stepped, rows_of, rows_stepped}
use Rattle.converge.specs.declared.History.{History}
use Rattle.converge.specs.declared.Refusal.{Refusal}
use Rattle.converge.specs.declared.Refusal.TheVariants.{Rows, Records}
use Rattle.converge.specs.declared.Verdict.{Verdict}
use Rattle.converge.specs.declared.Verdict.TheVariants.{Strayed, Moved, Refused}
use Rattle.converge.proofs.Chains.{stray_found, stray_none}
use Rattle.converge.proofs.Rows.{nexts_length}
use Rattle.converge.proofs.Accepted.{accepted, refused_later, refused_early}
use Rattle.converge.proofs.Verdicts.{moved_accepted}

module _ (x y : List Float) (past : List History) (count method : ℕ) (a : Answer) where
  after_kept : eqb a.number 4 ≡ false → after x y past count method a ≡ kept x past count a
  unfolding after
  after_kept e = rw e

  after-moved : eqb a.number 4 ≡ true → after x y past count method a ≡ kept (nexts_of x y past count method) (records_of x y) (count + 1) a
  unfolding after
  after-moved e = rw e

  after_answer : (after x y past count method a).answer ≡ a
  after_answer = go (eqb a.number 4) refl
    where
      go : (b : Bool) → eqb a.number 4 ≡ b → (after x y past count method a).answer ≡ a
      go true e = ap (λ (s : Stepped). s.answer) (after-moved e)
      go false e = ap (λ (s : Stepped). s.answer) (after_kept e)

module _ (x y : List Float) (past : List History) (count method : ℕ) (tolerance : Float) (limit : ℕ) where
  pub stepped_answer : (stepped x y past count method tolerance limit).answer ≡ verdict_of x y past count method tolerance limit
  unfolding stepped
  stepped_answer = after_answer x y past count method (verdict_of x y past count method tolerance limit)

  pub stepped_kept : ((verdict_of x y past count method tolerance limit).number ≡ 4 → ⊥)
      → stepped x y past count method tolerance limit ≡ kept x past count (verdict_of x y past count method tolerance limit)
  unfolding stepped
  stepped_kept n = after_kept x y past count method (verdict_of x y past count method tolerance limit) (ne_eqb _ _ n)

  pub stepped-moved : (verdict_of x y past count method tolerance limit).number ≡ 4
      → stepped x y past count method tolerance limit
      ≡ kept (nexts_of x y past count method) (records_of x y) (count + 1) (verdict_of x y past count method tolerance limit)
  unfolding stepped
  stepped-moved e = after-moved x y past count method (verdict_of x y past count method tolerance limit) (eq-eqb _ _ e)

module _ (x y px py : List Float) (count method : ℕ) (tolerance : Float) (limit : ℕ) where
  pub rows_level : length px ≡ length py
      → rows_stepped x y px py count method tolerance limit ≡ rows_of (stepped x y (records_of px py) count method tolerance limit)
  unfolding rows_stepped
  rows_level e = rw (eq-eqb (length px) (length py) e)

  pub rows_unlevel : (length px ≡ length py → ⊥)
      → rows_stepped x y px py count method tolerance limit ≡ record { answer = refused 30; x = x; past_x = px; past_y = py; count = count }
  unfolding rows_stepped
  rows_unlevel n = rw (ne_eqb (length px) (length py) n)

-- ---- what the step of a row leaves

module _ (x y : List Float) (past : List History) (count method : ℕ) (tolerance : Float) (limit : ℕ) where
  verdict_refused : (r : Refusal) → refusal_of x y past count method tolerance limit ≡ number_of r
      → answer_of (Refused r) ≡ verdict_of x y past count method tolerance limit
  unfolding verdict_of
  verdict_refused r e = rw e (go r)
    where
      go : (r : Refusal) → refused (number_of r) ≡ cond (eqb (number_of r) 0) (judged x y past count method tolerance limit) (refused (number_of r))
      go Rows = refl
      go _ = refl

  verdict_judged : refusal_of x y past count method tolerance limit ≡ 0
      → verdict_of x y past count method tolerance limit ≡ judged x y past count method tolerance limit
  unfolding verdict_of
  verdict_judged e = rw e

  kept_step : (r : Verdict) → answer_of r ≡ verdict_of x y past count method tolerance limit → eqb (answer_of r).number 4 ≡ false
      → HistoryStep (stepped x y past count method tolerance limit) r x past count
  kept_step r e h =
      let n : (verdict_of x y past count method tolerance limit).number ≡ 4 → ⊥ = eqb-false _ _ (ap (λ (a : Answer). eqb a.number 4) (sym e) ∙ h) in
      subst (λ (s : Stepped). HistoryStep s r x past count) (sym (stepped_kept x y past count method tolerance limit n))
      (record { verdict = e; x = refl; past = refl; count = refl })

  pub history_refused : (r : Refusal) → refusal_of x y past count method tolerance limit ≡ number_of r
      → HistoryStep (stepped x y past count method tolerance limit) (Refused r) x past count
  history_refused r e = kept_step (Refused r) (verdict_refused r e) refl

  -- a step that isn't refused, judged by the method of that number
  module _ (m : ℕ) (known : m ≡ method) (accepted : refusal_of x y past count method tolerance limit ≡ 0) where
    judged_verdict : (r : Verdict) → answer_of r ≡ judged x y past count m tolerance limit → answer_of r ≡ verdict_of x y past count method tolerance limit
    judged_verdict r e = e ∙ ap (λ (n : ℕ). judged x y past count n tolerance limit) known ∙ sym (verdict_judged accepted)

    -- at a verdict other than Moved
    pub history_kept : (r : Verdict) → answer_of r ≡ judged x y past count m tolerance limit → eqb (answer_of r).number 4 ≡ false
        → HistoryStep (stepped x y past count method tolerance limit) r x past count
    history_kept r e h = kept_step r (judged_verdict r e) h

    -- at Moved the count is below the limit
    pub history_moved : (d : Float) → answer_of (Moved d) ≡ judged x y past count m tolerance limit
        → (count < 500) × HistoryStep (stepped x y past count method tolerance limit) (Moved d) (nexts_of x y past count m) (records_of x y) (count + 1)
    history_moved d e =
        let f = judged_verdict (Moved d) e in
        let n : (verdict_of x y past count method tolerance limit).number ≡ 4 = ap (λ (a : Answer). a.number) (sym f) in
        let b = moved_accepted x y past count method tolerance limit n in (
          omega (arith, b.1, b.0.most),
          subst (λ (s : Stepped). HistoryStep s (Moved d) (nexts_of x y past count m) (records_of x y) (count + 1))
              (sym (stepped-moved x y past count method tolerance limit n))
              (record { verdict = f; x = ap (λ (n : ℕ). nexts_of x y past count n) known; past = refl; count = refl }),
        )

-- ---- what is judged before the next values, and by them

-- a verdict that needs no next value is not Moved
pub early_stays : (x y : List Float) (count : ℕ) (tolerance : Float) (limit : ℕ) (top : Float) (v : Verdict) → Settles x y count tolerance limit top (Some v) → eqb (answer_of v).number 4 ≡ false
early_stays x y count tolerance limit top v h = ap (λ (a : Answer). eqb a.number 4) (sym (h (spent top))) ∙ go (all_close x y tolerance) (eqb count limit)
  where
    go : (p q : Bool) → eqb (cond p (settled top) (cond q (spent top) (spent top))).number 4 ≡ false
    go false true = refl
    go _ _ = refl

module _ (x y : List Float) (past : List History) (count method : ℕ) (tolerance : Float) (limit : ℕ) (top : Float) (largest : top ≡ largest_of x y) where
  judged_settles : (o : Option Verdict) → Settles x y count tolerance limit top o
      → judged x y past count method tolerance limit ≡ option_map_or answer_of o (stray_or (nexts_of x y past count method) (moved top))
  unfolding judged
  judged_settles o h =
      ap (λ (t : Float). cond (all_close x y tolerance) (settled t) (cond (eqb count limit) (spent t) (stray_or (nexts_of x y past count method) (moved t))))
      (sym largest)
      ∙ h (stray_or (nexts_of x y past count method) (moved top))

  pub judged_early : (v : Verdict) → Settles x y count tolerance limit top (Some v) → answer_of v ≡ judged x y past count method tolerance limit
  judged_early v h = sym (judged_settles (Some v) h)

  pub judged_strayed : (v : Float) → Settles x y count tolerance limit top None → Some v ≡ find beyond (nexts_of x y past count method)
      → answer_of (Strayed v) ≡ judged x y past count method tolerance limit
  judged_strayed v h e = sym (judged_settles None h ∙ stray_found _ _ v (sym e))

  pub judged-moved : Settles x y count tolerance limit top None → None ≡ find beyond (nexts_of x y past count method)
      → answer_of (Moved top) ≡ judged x y past count method tolerance limit
  judged-moved h e = sym (judged_settles None h ∙ stray_none _ _ (sym e))

-- ---- what is decided before anything is written

module _ (x y : List Float) (past : List History) (count method : ℕ) (tolerance : Float) (limit : ℕ) where
  numbered : (r : Refusal) → number_of r ≡ 0 → ⊥
  numbered Rows e = omega arith
  numbered _ e = omega arith

  -- 30 to 33
  pub decided_early : (r : Refusal) → refused_or x y (length past) method tolerance limit 0 ≡ number_of r
      → HistoryStep (stepped x y past count method tolerance limit) (Refused r) x past count
  unfolding refusal_of
  decided_early r e =
      history_refused x y past count method tolerance limit r (refused_early x y (length past) method tolerance limit _ (number_of r) (numbered r) e)

  -- 34, or none
  pub decided_late : refused_or x y (length past) method tolerance limit 0 ≡ 0 → records_wrong past count limit ≡ true
      → HistoryStep (stepped x y past count method tolerance limit) (Refused Records) x past count
  unfolding refusal_of
  decided_late e h =
      history_refused x y past count method tolerance limit Records
      (refused_later x y (length past) method tolerance limit _ e ∙ ap (λ (b : Bool). cond b 34 0) h)

  pub decided_none : refused_or x y (length past) method tolerance limit 0 ≡ 0 → records_wrong past count limit ≡ false
      → refusal_of x y past count method tolerance limit ≡ 0
  unfolding refusal_of
  decided_none e h = refused_later x y (length past) method tolerance limit _ e ∙ ap (λ (b : Bool). cond b 34 0) h

  pub decided_moves : (m : ℕ) → m ≡ method → refusal_of x y past count method tolerance limit ≡ 0
      → (d : Float) → answer_of (Moved d) ≡ judged x y past count m tolerance limit
      → Moves (stepped x y past count method tolerance limit) x y past count d (nexts_of x y past count m)
  decided_moves m known e d f =
      let a = accepted x y past count method tolerance limit e in
      let k = history_moved x y past count method tolerance limit m known e d f in
      record {
        step = k.1;
        below = k.0;
        few = a.few;
        level = a.level;
        recorded = a.recorded;
        next = nexts_length x y past count m a.level a.recorded;
      }

-- ---- one value

-- a row of one is its first item
one_item : (l : List Float) (d : Float) → length l ≡ 1 → get_or l 0 d ∷ [] ≡ l
one_item (v ∷ []) d e = refl
one_item [] d e = absurd (omega arith)
one_item (v ∷ w ∷ l) d e = absurd (omega arith)

module _ (x y : Float) (past : History) (count method : ℕ) (tolerance : Float) (limit : ℕ) where
  pub value_moves : (d v : Float) (nexts : List Float) → Moves (value_stepped x y past count method tolerance limit) (x ∷ []) (y ∷ []) (past ∷ []) count d nexts
      → ValueStep (value_stepped x y past count method tolerance limit)
      (record { verdict = Moved d; x = get_or nexts 0 v; past = record { x = x; y = y }; count = count + 1 })
  unfolding records_of
  value_moves d v nexts k =
      record { verdict = k.step.verdict; x = one_item nexts v k.next ∙ k.step.x; past = k.step.past; count = k.step.count }
