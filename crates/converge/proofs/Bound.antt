-- The bound on Moved: from count 0, with one limit kept and each count handed on, Moved comes at most as often as the limit says.
-- It is proved of every step whose count at exit is tied to its answer: one more exactly on Moved, and Moved only below the limit. Assumes nothing.
use mathlib.Core.Path.{◌≡◌, refl, sym, ◌∙◌, ap, subst}
use mathlib.Core.Bool.{Bool, true, false, cond}
use mathlib.Core.List.{List, [], ◌∷◌}
use mathlib.Core.Logic.{◌⊎◌, inl, inr, ◌↔◌}
use Prim.Native.Nat.{ℕ, ◌+◌, ◌<◌, ◌≤◌}
use native.Mathlib.Omega.{arith}
use lib.Dec.{eqb}
use lib.ListN.{length}
use lib.Ieee.{Float}
use borrow.Author.Tests.{eqb-true, eqb-false}
use Rattle.converge.specs.Answer.{Answer, answer_of}
use Rattle.converge.specs.Row.{Stepped, stepped, records_of}
use Rattle.converge.specs.Promise.{ValueStep, RowStep, HistoryStep, Rows, value_stepped, rows_stepped}
use Rattle.converge.specs.declared.History.{History}
use Rattle.converge.specs.declared.Step.{Step}
use Rattle.converge.specs.declared.Verdict.{Verdict}
use Rattle.converge.proofs.Verdicts.{moved_accepted}
use Rattle.converge.proofs.Lent.{stepped_answer, stepped_kept, stepped-moved, rows_level, rows_unlevel}

-- ---- any step

-- The count n at entry and m at exit are tied to the answer.
pub record Tied (limit n : ℕ) (a : Answer) (m : ℕ) : Type 0 where
  pub moves : a.number ≡ 4 → m ≡ n + 1
  pub below : a.number ≡ 4 → n < limit
  pub stays : (a.number ≡ 4 → ⊥) → m ≡ n

pub tied_exactly : (limit n : ℕ) (a : Answer) (m : ℕ) → Tied limit n a m → ((m ≡ n + 1) ↔ (a.number ≡ 4)) × ((m ≡ n) ⊎ (m ≡ n + 1))
tied_exactly limit n a m t = go (eqb a.number 4) refl
  where
    go : (b : Bool) → eqb a.number 4 ≡ b → ((m ≡ n + 1) ↔ (a.number ≡ 4)) × ((m ≡ n) ⊎ (m ≡ n + 1))
    go true e = let f : a.number ≡ 4 = eqb-true _ _ e in ((λ g. f, t.moves), inr (t.moves f))
    go false e =
        let f : a.number ≡ 4 → ⊥ = eqb-false _ _ e in
        let s : m ≡ n = t.stays f in
        ((λ g. absurd (omega arith), t.moves), inl s)

retied : {limit n m k : ℕ} {a b : Answer} → b ≡ a → k ≡ m → Tied limit n b k → Tied limit n a m
retied {limit} {n} {m} {k} {a} {b} e f t = subst (λ (z : ℕ). Tied limit n a z) f (subst (λ (z : Answer). Tied limit n z k) e t)

-- 1 for Moved, 0 for every other answer
abbrev pub moves : Answer → ℕ
moves a = cond (eqb a.number 4) 1 0

-- Calls one after the other, each at the count that the one before it left: from which count, how many Moved, to which count.
-- `Call n a m` says that a call at count n may answer a and leave the count m.
pub data Calls (Call : ℕ → Answer → ℕ → Type 0) : ℕ → ℕ → ℕ → Type 0 where
  none : {n : ℕ} → Calls Call n 0 n
  next : {n m k l : ℕ} {a : Answer} → Call n a m → Calls Call m k l → Calls Call n (moves a + k) l

module _ (limit : ℕ) (Call : ℕ → Answer → ℕ → Type 0) (tied : (n : ℕ) (a : Answer) (m : ℕ) → Call n a m → Tied limit n a m) where
  one_call : {n m : ℕ} {a : Answer} → Call n a m → n ≤ limit → (m ≡ n + moves a) × (m ≤ limit)
  one_call {n} {m} {a} c h = go (eqb a.number 4) refl
    where
      t : Tied limit n a m
      t = tied n a m c

      go : (b : Bool) → eqb a.number 4 ≡ b → (m ≡ n + cond b 1 0) × (m ≤ limit)
      go true e =
          let f : a.number ≡ 4 = eqb-true _ _ e in
          let g : m ≡ n + 1 = t.moves f in
          let l : n < limit = t.below f in
          (g, omega arith)
      go false e = let g : m ≡ n = t.stays (eqb-false _ _ e) in (omega arith, omega arith)

  -- The count is where it began and one more for each Moved, and doesn't pass the limit.
  pub counted : {n k l : ℕ} → Calls Call n k l → n ≤ limit → (l ≡ n + k) × (l ≤ limit)
  counted none h = (omega arith, h)
  counted (next c r) h =
      let o = one_call c h in
      let g = counted r o.1 in
      (omega (arith, o.0, g.0), g.1)

  -- From count 0 Moved comes at most `limit` times.
  pub at_most_limit : {k l : ℕ} → Calls Call 0 k l → k ≤ limit
  at_most_limit r = let g = counted r (omega arith) in omega (arith, g.0, g.1)

-- ---- the steps of this crate, from their statements alone

module _ (x y : List Float) (past : List History) (count method : ℕ) (tolerance : Float) (limit : ℕ) where
  pub stepped_tied : Tied limit count (stepped x y past count method tolerance limit).answer (stepped x y past count method tolerance limit).count
  stepped_tied =
      let n = ap (λ (a : Answer). a.number) (stepped_answer x y past count method tolerance limit) in
      record {
        moves = λ e. ap (λ (s : Stepped). s.count) (stepped-moved x y past count method tolerance limit (sym n ∙ e));
        below = λ e. (moved_accepted x y past count method tolerance limit (sym n ∙ e)).1;
        stays = λ f. ap (λ (s : Stepped). s.count) (stepped_kept x y past count method tolerance limit (λ e. f (n ∙ e)));
      }

module _ (x y px py : List Float) (count method : ℕ) (tolerance : Float) (limit : ℕ) where
  pub rows_tied : Tied limit count (rows_stepped x y px py count method tolerance limit).answer (rows_stepped x y px py count method tolerance limit).count
  rows_tied = go (eqb (length px) (length py)) refl
    where
      go : (b : Bool) → eqb (length px) (length py) ≡ b
          → Tied limit count (rows_stepped x y px py count method tolerance limit).answer (rows_stepped x y px py count method tolerance limit).count
      go true e =
          subst (λ (s : Rows). Tied limit count s.answer s.count) (sym (rows_level x y px py count method tolerance limit (eqb-true _ _ e)))
          (stepped_tied x y (records_of px py) count method tolerance limit)
      go false e =
          subst (λ (s : Rows). Tied limit count s.answer s.count) (sym (rows_unlevel x y px py count method tolerance limit (eqb-false _ _ e)))
          (record { moves = λ f. absurd (omega (arith, f)); below = λ f. absurd (omega (arith, f)); stays = λ f. refl })

-- A call of the step of one value, of the step of a row with its records in two rows, and of the step of a row with its records in one, with any
-- values, records, method and tolerance.
pub record ValueCall (limit n : ℕ) (a : Answer) (m : ℕ) : Type 0 where
  pub x : Float
  pub y : Float
  pub past : History
  pub method : ℕ
  pub tolerance : Float
  pub result : Step
  pub promised : ValueStep (value_stepped x y past n method tolerance limit) result
  pub answer : a ≡ answer_of result.verdict
  pub count : m ≡ result.count

pub record RowCall (limit n : ℕ) (a : Answer) (m : ℕ) : Type 0 where
  pub x : List Float
  pub y : List Float
  pub past_x : List Float
  pub past_y : List Float
  pub method : ℕ
  pub tolerance : Float
  pub verdict : Verdict
  pub x' : List Float
  pub past_x' : List Float
  pub past_y' : List Float
  pub promised : RowStep (rows_stepped x y past_x past_y n method tolerance limit) verdict x' past_x' past_y' m
  pub answer : a ≡ answer_of verdict

pub record HistoryCall (limit n : ℕ) (a : Answer) (m : ℕ) : Type 0 where
  pub x : List Float
  pub y : List Float
  pub past : List History
  pub method : ℕ
  pub tolerance : Float
  pub verdict : Verdict
  pub x' : List Float
  pub past' : List History
  pub promised : HistoryStep (stepped x y past n method tolerance limit) verdict x' past' m
  pub answer : a ≡ answer_of verdict

pub value_call_tied : (limit n : ℕ) (a : Answer) (m : ℕ) → ValueCall limit n a m → Tied limit n a m
value_call_tied limit n a m c =
    retied (sym (c.answer ∙ c.promised.verdict)) (sym (c.count ∙ c.promised.count))
    (stepped_tied (c.x ∷ []) (c.y ∷ []) (c.past ∷ []) n c.method c.tolerance limit)

pub row_call_tied : (limit n : ℕ) (a : Answer) (m : ℕ) → RowCall limit n a m → Tied limit n a m
row_call_tied limit n a m c =
    retied (sym (c.answer ∙ c.promised.verdict)) (sym c.promised.count)
    (rows_tied c.x c.y c.past_x c.past_y n c.method c.tolerance limit)

pub history_call_tied : (limit n : ℕ) (a : Answer) (m : ℕ) → HistoryCall limit n a m → Tied limit n a m
history_call_tied limit n a m c =
    retied (sym (c.answer ∙ c.promised.verdict)) (sym c.promised.count) (stepped_tied c.x c.y c.past n c.method c.tolerance limit)

-- A count that isn't tied to the Moved answers is shut out: in each result that a statement allows the count is one more exactly on Moved,
-- and else as it stood.
pub value_count : (limit n : ℕ) (a : Answer) (m : ℕ) → ValueCall limit n a m → ((m ≡ n + 1) ↔ (a.number ≡ 4)) × ((m ≡ n) ⊎ (m ≡ n + 1))
value_count limit n a m c = tied_exactly limit n a m (value_call_tied limit n a m c)

pub row_count : (limit n : ℕ) (a : Answer) (m : ℕ) → RowCall limit n a m → ((m ≡ n + 1) ↔ (a.number ≡ 4)) × ((m ≡ n) ⊎ (m ≡ n + 1))
row_count limit n a m c = tied_exactly limit n a m (row_call_tied limit n a m c)

pub history_count : (limit n : ℕ) (a : Answer) (m : ℕ) → HistoryCall limit n a m → ((m ≡ n + 1) ↔ (a.number ≡ 4)) × ((m ≡ n) ⊎ (m ≡ n + 1))
history_count limit n a m c = tied_exactly limit n a m (history_call_tied limit n a m c)

-- Moved comes at most `limit` times.
pub value_moves : (limit k l : ℕ) → Calls (ValueCall limit) 0 k l → k ≤ limit
value_moves limit k l = at_most_limit limit (ValueCall limit) (value_call_tied limit)

pub row_moves : (limit k l : ℕ) → Calls (RowCall limit) 0 k l → k ≤ limit
row_moves limit k l = at_most_limit limit (RowCall limit) (row_call_tied limit)

pub history_moves : (limit k l : ℕ) → Calls (HistoryCall limit) 0 k l → k ≤ limit
history_moves limit k l = at_most_limit limit (HistoryCall limit) (history_call_tied limit)
