-- The step of one value with all that is lent as bytes: what it returns, and every byte after it.
use Rattle.std.specs.Prelude.{Bool, not, cond, ◌||◌, List, [], ◌∷◌, ◌≡◌, ℕ, ◌+◌, eqb, Float, length, set}
use Rattle.std.specs.Float.{binary64}
use Rattle.std.specs.Float.Ieee.{of_bits, to_bits}
use Rattle.converge.specs.Answer.{Answer}
use Rattle.converge.specs.Promise.{value_stepped}
use Rattle.converge.specs.Row.{Stepped}
use Rattle.converge.specs.declared.History.{History}
use Rattle.words.specs.Words.{number_at, with_number}

-- The double in the 8 bytes from a place on. What is a NaN's pattern holds no number.
unfoldable pub double_at : List ℕ → ℕ → Float
double_at l at = of_bits binary64 (number_at 8 l at)

-- The record as 16 (x, then y).
abbrev pub record_in : List ℕ → History
record_in l = record { x = double_at l 0; y = double_at l 8 }

abbrev pub values_of : List History → List Float
values_of [] = []
values_of (p ∷ past) = p.x ∷ p.y ∷ values_of past

-- Doubles written one after the other, from a place on.
abbrev pub with_doubles : List ℕ → ℕ → List Float → List ℕ
with_doubles l at [] = l
with_doubles l at (v ∷ vs) = with_doubles (with_number 8 l at (to_bits binary64 v)) (at + 8) vs

-- The answer as 9: 1 Settled, 2 Spent, 3 Strayed or 4 Moved, then the carried double.
abbrev pub with_answer : List ℕ → Answer → List ℕ
with_answer l a = with_doubles (set l 0 a.number) 1 (a.carried ∷ [])

-- x is lent as 8 bytes, the record as 16, the count as 2, the answer as 9; a wrong length is 30.
unfoldable pub lengths_wrong : ℕ → ℕ → ℕ → ℕ → Bool
lengths_wrong x past count answer = not (eqb x 8) || (not (eqb past 16) || (not (eqb count 2) || not (eqb answer 9)))

-- What the step returns, and all that is lent as it stands after it.
pub record Lent : Type 0 where
  pub code : ℕ
  pub x : List ℕ
  pub past : List ℕ
  pub count : List ℕ
  pub answer : List ℕ

abbrev pub lent : ℕ → List ℕ → List ℕ → List ℕ → List ℕ → Lent
lent code x past count answer = record { code = code; x = x; past = past; count = count; answer = answer }

-- The step returns 0, or a refusal's number with all of these unchanged. On Moved the next value is written over x, the record takes
-- this x and y, and the count is one more; at every other verdict the answer alone is written, and the other bytes stay as they are.
unfoldable pub leaves : Stepped → List ℕ → List ℕ → List ℕ → List ℕ → Lent
leaves s x past count answer =
    cond (eqb s.answer.refusal 0)
    (cond (eqb s.answer.number 4)
    (lent 0 (with_doubles x 0 s.x) (with_doubles past 0 (values_of s.past)) (with_number 2 count 0 s.count) (with_answer answer s.answer))
    (lent 0 x past count (with_answer answer s.answer)))
    (lent s.answer.refusal x past count answer)

-- The step by value of what the bytes hold.
abbrev pub held_step : List ℕ → Float → List ℕ → List ℕ → ℕ → Float → ℕ → Stepped
held_step x y past count = value_stepped (double_at x 0) y (record_in past) (number_at 2 count 0)

-- A wrong length before all else; then that step.
unfoldable pub bytes_stepped : List ℕ → Float → List ℕ → List ℕ → ℕ → Float → ℕ → List ℕ → Lent
bytes_stepped x y past count method tolerance limit answer =
    cond (lengths_wrong (length x) (length past) (length count) (length answer))
    (lent 30 x past count answer)
    (leaves (held_step x y past count method tolerance limit) x past count answer)

-- What is returned, and what stands in each lent row at exit.
pub record BytesStep (s : Lent) (r : ℕ) (x' past' count' answer' : List ℕ) : Type 0 where
  pub code : r ≡ s.code
  pub x : x' ≡ s.x
  pub past : past' ≡ s.past
  pub count : count' ≡ s.count
  pub answer : answer' ≡ s.answer
