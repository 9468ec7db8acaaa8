-- The step of a row of values, with one record for each value and one count.
use Rattle.std.specs.Prelude.{◌≡◌, Option, Bool, true, not, cond, ◌&&◌, ◌||◌, List, [], ◌∷◌, ℕ, ◌+◌, eqb, ltb, length, Float}
use Rattle.std.specs.Float.Ieee.{le}
use Rattle.std.specs.Option.{option_map_or}
use Rattle.converge.specs.Doubles.{zero64, finest, coarsest, larger, usable, beyond}
use Rattle.converge.specs.Answer.{Answer, settled, spent, strayed, moved, refused, answer_of}
use Rattle.converge.specs.Value.{gap_of, close, next_of, usable_record}
use Rattle.converge.specs.declared.History.{History}
use Rattle.converge.specs.declared.Verdict.{Verdict}

-- One history record for each value, holding the x and y of the last accepted move.
unfoldable pub records_of : List Float → List Float → List History
records_of [] ys = []
records_of (x ∷ xs) [] = []
records_of (x ∷ xs) (y ∷ ys) = record { x = x; y = y } ∷ records_of xs ys

-- The largest of `top` and every |y − x| of two rows.
unfoldable pub largest_from : Float → List Float → List Float → Float
largest_from top [] ys = top
largest_from top (x ∷ xs) [] = top
largest_from top (x ∷ xs) (y ∷ ys) = largest_from (larger top (gap_of x y)) xs ys

-- The largest |y − x|.
unfoldable pub largest_of : List Float → List Float → Float
largest_of [] ys = zero64
largest_of (x ∷ xs) [] = zero64
largest_of (x ∷ xs) (y ∷ ys) = largest_from (gap_of x y) xs ys

-- All close.
unfoldable pub all_close : List Float → List Float → Float → Bool
all_close [] ys tolerance = true
all_close (x ∷ xs) [] tolerance = true
all_close (x ∷ xs) (y ∷ ys) tolerance = close x y tolerance && all_close xs ys tolerance

-- Each value's next is worked out.
unfoldable pub nexts_of : List Float → List Float → List History → ℕ → ℕ → List Float
nexts_of [] ys past count method = []
nexts_of (x ∷ xs) [] past count method = []
nexts_of (x ∷ xs) (y ∷ ys) [] count method = []
nexts_of (x ∷ xs) (y ∷ ys) (p ∷ past) count method = next_of x y p count method ∷ nexts_of xs ys past count method

-- If some next is beyond 1e12 in size: Strayed, carrying the first such next. Else the answer given.
unfoldable pub stray_or : List Float → Answer → Answer
stray_or [] a = a
stray_or (v ∷ vs) a = cond (beyond v) (strayed v) (stray_or vs a)

-- Every value of a row, and every record of a row, is usable.
unfoldable pub usable_row : List Float → Bool
usable_row [] = true
usable_row (v ∷ vs) = usable v && usable_row vs

unfoldable pub usable_records : List History → Bool
usable_records [] = true
usable_records (p ∷ past) = usable_record p && usable_records past

-- 30: rows of unequal length, empty or over 16
unfoldable pub rows_wrong : ℕ → ℕ → ℕ → Bool
rows_wrong x y past = not (eqb x y) || (not (eqb x past) || (eqb x 0 || ltb 16 x))

-- 31: tolerance not from 1e-12 to 0.1
unfoldable pub tolerance_wrong : Float → Bool
tolerance_wrong tolerance = not (le finest tolerance) || not (le tolerance coarsest)

-- 32: limit not 1 to 500, or method unknown
unfoldable pub limit_wrong : ℕ → ℕ → Bool
limit_wrong limit method = eqb limit 0 || (ltb 500 limit || (not (eqb method 1) && not (eqb method 2)))

-- 33: an x or y not finite or beyond 1e12 in size
unfoldable pub values_wrong : List Float → List Float → Bool
values_wrong x y = not (usable_row x) || not (usable_row y)

-- 34: count over limit, or at count over 0 a record value not finite or beyond 1e12
unfoldable pub records_wrong : List History → ℕ → ℕ → Bool
records_wrong past count limit = ltb limit count || (ltb 0 count && not (usable_records past))

-- 30 to 33 in order, which ask of the records only how many there are; `later` where none of them is given.
abbrev pub refused_or : List Float → List Float → ℕ → ℕ → Float → ℕ → ℕ → ℕ
refused_or x y records method tolerance limit later =
    cond (rows_wrong (length x) (length y) records) 30
    (cond (tolerance_wrong tolerance) 31
    (cond (limit_wrong limit method) 32
    (cond (values_wrong x y) 33 later)))

-- Step: 30 to 34 in order; 0 where the step is not refused.
unfoldable pub refusal_of : List Float → List Float → List History → ℕ → ℕ → Float → ℕ → ℕ
refusal_of x y past count method tolerance limit =
    cond (rows_wrong (length x) (length y) (length past)) 30
    (cond (tolerance_wrong tolerance) 31
    (cond (limit_wrong limit method) 32
    (cond (values_wrong x y) 33
    (cond (records_wrong past count limit) 34 0))))

-- All close: Settled, carrying the largest |y − x|. Else, count equals limit: Spent, carrying the largest |y − x|.
-- Else each value's next is worked out. If some next is beyond 1e12 in size: Strayed. Else Moved, carrying the largest |y − x|.
unfoldable pub judged : List Float → List Float → List History → ℕ → ℕ → Float → ℕ → Answer
judged x y past count method tolerance limit =
    cond (all_close x y tolerance) (settled (largest_of x y))
    (cond (eqb count limit) (spent (largest_of x y))
    (stray_or (nexts_of x y past count method) (moved (largest_of x y))))

-- The verdict, if there is one, that needs no next: Settled or Spent, with `top` for the largest |y − x|. Without one the answer is left for later.
abbrev pub Settles : List Float → List Float → ℕ → Float → ℕ → Float → Option Verdict → Type 0
Settles x y count tolerance limit top verdict =
    (later : Answer) → cond (all_close x y tolerance) (settled top) (cond (eqb count limit) (spent top) later) ≡ option_map_or answer_of verdict later

-- Refused by its number, and changing nothing; else judged.
unfoldable pub verdict_of : List Float → List Float → List History → ℕ → ℕ → Float → ℕ → Answer
verdict_of x y past count method tolerance limit =
    cond (eqb (refusal_of x y past count method tolerance limit) 0)
    (judged x y past count method tolerance limit)
    (refused (refusal_of x y past count method tolerance limit))

-- A step's answer, and all that is lent as it stands after it.
pub record Stepped : Type 0 where
  pub answer : Answer
  pub x : List Float
  pub past : List History
  pub count : ℕ

-- What is lent, beside an answer.
abbrev pub kept : List Float → List History → ℕ → Answer → Stepped
kept x past count a = record { answer = a; x = x; past = past; count = count }

-- Moved: nexts are written over the x row, records take this x and y, the count rises by one. At any other answer nothing changes.
unfoldable pub after : List Float → List Float → List History → ℕ → ℕ → Answer → Stepped
after x y past count method a =
    cond (eqb a.number 4)
    (kept (nexts_of x y past count method) (records_of x y) (count + 1) a)
    (kept x past count a)

-- The step: its verdict, and all that is lent after it.
unfoldable pub stepped : List Float → List Float → List History → ℕ → ℕ → Float → ℕ → Stepped
stepped x y past count method tolerance limit =
    after x y past count method (verdict_of x y past count method tolerance limit)
