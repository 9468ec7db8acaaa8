-- What the public functions promise: the answer, and everything lent, as the definitions give it.
use Rattle.std.specs.Prelude.{◌≡◌, cond, List, [], ◌∷◌, map, ℕ, ◌+◌, ◌<◌, ◌≤◌, eqb, length, Float, Result, MatchResult}
use Rattle.converge.specs.Answer.{Answer, refused, answer_of}
use Rattle.converge.specs.Row.{Stepped, stepped, records_of}
use Rattle.converge.specs.declared.History.{History}
use Rattle.converge.specs.declared.Verdict.{Verdict}
use Rattle.converge.specs.declared.Verdict.TheVariants.{Moved}
use Rattle.converge.specs.declared.Step.{Step}

-- The step of one value is the step of rows of one value.
abbrev pub value_stepped : Float → Float → History → ℕ → ℕ → Float → ℕ → Stepped
value_stepped x y past = stepped (x ∷ []) (y ∷ []) (past ∷ [])

-- What it returns: the answer, and x, record and count as they stand after it.
pub record ValueStep (s : Stepped) (r : Step) : Type 0 where
  pub verdict : answer_of r.verdict ≡ s.answer
  pub x : r.x ∷ [] ≡ s.x
  pub past : r.past ∷ [] ≡ s.past
  pub count : r.count ≡ s.count

-- A step's answer, and all that is lent as it stands after it, with the records as two rows, of x and of y.
pub record Rows : Type 0 where
  pub answer : Answer
  pub x : List Float
  pub past_x : List Float
  pub past_y : List Float
  pub count : ℕ

abbrev pub rows_of : Stepped → Rows
rows_of s = record {
  answer = s.answer;
  x = s.x;
  past_x = map (λ (p : History). p.x) s.past;
  past_y = map (λ (p : History). p.y) s.past;
  count = s.count;
}

-- The step with the records that the two rows make. Where their lengths differ, that is 30: rows of unequal length.
unfoldable pub rows_stepped : List Float → List Float → List Float → List Float → ℕ → ℕ → Float → ℕ → Rows
rows_stepped x y past_x past_y count method tolerance limit =
    cond (eqb (length past_x) (length past_y))
    (rows_of (stepped x y (records_of past_x past_y) count method tolerance limit))
    (record { answer = refused 30; x = x; past_x = past_x; past_y = past_y; count = count })

-- What it returns, and what stands in each lent row and in the count at exit.
pub record RowStep (s : Rows) (r : Verdict) (x' past_x' past_y' : List Float) (count' : ℕ) : Type 0 where
  pub verdict : answer_of r ≡ s.answer
  pub x : x' ≡ s.x
  pub past_x : past_x' ≡ s.past_x
  pub past_y : past_y' ≡ s.past_y
  pub count : count' ≡ s.count

-- There is one history record for each value, lent as a row: the same, with the records as they are.
pub record HistoryStep (s : Stepped) (r : Verdict) (x' : List Float) (past' : List History) (count' : ℕ) : Type 0 where
  pub verdict : answer_of r ≡ s.answer
  pub x : x' ≡ s.x
  pub past : past' ≡ s.past
  pub count : count' ≡ s.count

-- What Moved writes: the next values over x, this x and y into the records, and one more into the count, where there is room for each.
pub record Moves (s : Stepped) (x y : List Float) (past : List History) (count : ℕ) (top : Float) (nexts : List Float) : Type 0 where
  pub step : HistoryStep s (Moved top) nexts (records_of x y) (count + 1)
  pub below : count < 500
  pub few : length x ≤ 16
  pub level : length x ≡ length y
  pub recorded : length x ≡ length past
  pub next : length nexts ≡ length x

-- What a step decides before it writes: what Moved carries, with the next values in `nexts`, or the verdict at which all stays.
abbrev pub Decides : List Float → List Float → List History → ℕ → ℕ → Float → ℕ → List Float → Result Float Verdict → Type 0
Decides x y past count method tolerance limit nexts r =
    MatchResult r
    (λ top. Moves (stepped x y past count method tolerance limit) x y past count top nexts)
    (λ v. HistoryStep (stepped x y past count method tolerance limit) v x past count)
