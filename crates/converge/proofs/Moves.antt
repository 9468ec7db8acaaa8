-- The count and the records move at Moved and at no other answer: what any result that a statement allows leaves, from the statement alone. At Moved
-- the records hold this x and y, x holds the next values, and the count, which was below the limit, is one more; else all stays. Assumes nothing.
use mathlib.Core.Bool.{Bool, true, false}
use mathlib.Core.List.{List, [], ◌∷◌}
use mathlib.Core.Path.{◌≡◌, refl, sym, ◌∙◌, ap}
use Prim.Native.Nat.{ℕ, ◌+◌, ◌<◌}
use lib.Dec.{eqb}
use lib.ListN.{length}
use lib.Ieee.{Float}
use borrow.Author.Tests.{eqb-true, eqb-false}
use Rattle.converge.specs.Answer.{Answer, answer_of}
use Rattle.converge.specs.Row.{Stepped, stepped, nexts_of, records_of, verdict_of}
use Rattle.converge.specs.Promise.{Rows, ValueStep, RowStep, HistoryStep, value_stepped, rows_of, rows_stepped}
use Rattle.converge.specs.declared.History.{History}
use Rattle.converge.specs.declared.Step.{Step}
use Rattle.converge.specs.declared.Verdict.{Verdict}
use Rattle.converge.proofs.Lent.{stepped_answer, stepped_kept, stepped-moved, rows_level, rows_unlevel}
use Rattle.converge.proofs.Rows.{records_x, records_y}
use Rattle.converge.proofs.Verdicts.{moved_accepted}

-- the verdict is Moved
abbrev pub IsMoved : Verdict → Type 0
IsMoved r = (answer_of r).number ≡ 4

one : {A : Type 0} {a b : A} → a ∷ [] ≡ b ∷ [] → a ≡ b
one e = cc

module _ (x y : List Float) (past : List History) (n method : ℕ) (tolerance : Float) (limit : ℕ) where
  number_is : (r : Verdict) → answer_of r ≡ (stepped x y past n method tolerance limit).answer
      → (answer_of r).number ≡ (verdict_of x y past n method tolerance limit).number
  number_is r e = ap (λ (a : Answer). a.number) (e ∙ stepped_answer x y past n method tolerance limit)

  module _ {r : Verdict} {x' : List Float} {past' : List History} {m : ℕ}
      (k : HistoryStep (stepped x y past n method tolerance limit) r x' past' m) where
    pub history_stays : (IsMoved r → ⊥) → (x' ≡ x) × (past' ≡ past) × (m ≡ n)
    history_stays f =
        let s = stepped_kept x y past n method tolerance limit (λ e. f (number_is r k.verdict ∙ e)) in
        (k.x ∙ ap (λ (s : Stepped). s.x) s, k.past ∙ ap (λ (s : Stepped). s.past) s, k.count ∙ ap (λ (s : Stepped). s.count) s)

    pub history_moved : IsMoved r → (x' ≡ nexts_of x y past n method) × (past' ≡ records_of x y) × (m ≡ n + 1) × (n < limit)
    history_moved e =
        let v = sym (number_is r k.verdict) ∙ e in
        let s = stepped-moved x y past n method tolerance limit v in (
          k.x ∙ ap (λ (s : Stepped). s.x) s,
          k.past ∙ ap (λ (s : Stepped). s.past) s,
          k.count ∙ ap (λ (s : Stepped). s.count) s,
          (moved_accepted x y past n method tolerance limit v).1,
        )

module _ (x y : Float) (past : History) (n method : ℕ) (tolerance : Float) (limit : ℕ) {r : Step}
    (k : ValueStep (value_stepped x y past n method tolerance limit) r) where
  as_rows : HistoryStep (value_stepped x y past n method tolerance limit) r.verdict (r.x ∷ []) (r.past ∷ []) r.count
  as_rows = record { verdict = k.verdict; x = k.x; past = k.past; count = k.count }

  pub value_stays : (IsMoved r.verdict → ⊥) → (r.x ≡ x) × (r.past ≡ past) × (r.count ≡ n)
  value_stays f =
      let s = history_stays (x ∷ []) (y ∷ []) (past ∷ []) n method tolerance limit as_rows f in
      (one s.0, one s.1, s.2)

module _ (x y px py : List Float) (n method : ℕ) (tolerance : Float) (limit : ℕ) {r : Verdict} {x' px' py' : List Float} {m : ℕ}
    (k : RowStep (rows_stepped x y px py n method tolerance limit) r x' px' py' m) where
  pub rows_stays : (IsMoved r → ⊥) → (x' ≡ x) × (px' ≡ px) × (py' ≡ py) × (m ≡ n)
  rows_stays f = go (eqb (length px) (length py)) refl
    where
      left : {s : Rows} → rows_stepped x y px py n method tolerance limit ≡ s → (s.x ≡ x) × (s.past_x ≡ px) × (s.past_y ≡ py) × (s.count ≡ n)
          → (x' ≡ x) × (px' ≡ px) × (py' ≡ py) × (m ≡ n)
      left e s = (
        k.x ∙ ap (λ (s : Rows). s.x) e ∙ s.0,
        k.past_x ∙ ap (λ (s : Rows). s.past_x) e ∙ s.1,
        k.past_y ∙ ap (λ (s : Rows). s.past_y) e ∙ s.2,
        k.count ∙ ap (λ (s : Rows). s.count) e ∙ s.3,
      )

      go : (b : Bool) → eqb (length px) (length py) ≡ b → (x' ≡ x) × (px' ≡ px) × (py' ≡ py) × (m ≡ n)
      go true e =
          let l : length px ≡ length py = eqb-true _ _ e in
          let level = rows_level x y px py n method tolerance limit l in
          let kept = stepped_kept x y (records_of px py) n method tolerance limit
          (λ h. f (number_is x y (records_of px py) n method tolerance limit r (k.verdict ∙ ap (λ (s : Rows). s.answer) level) ∙ h)) in
          left (level ∙ ap rows_of kept) (refl, records_x px py l, records_y px py l, refl)
      go false e = left (rows_unlevel x y px py n method tolerance limit (eqb-false _ _ e)) (refl, refl, refl, refl)
