-- What a step answers, in the numbers and values of the specification.
use Rattle.std.specs.Prelude.{◌≡◌, ◌≢◌, ℕ, Float, Result, MatchResult}
use Rattle.converge.specs.Doubles.{zero64}
use Rattle.converge.specs.declared.Method.{Method}
use Rattle.converge.specs.declared.Method.TheVariants.{Substitution, Wegstein}
use Rattle.converge.specs.declared.Refusal.{Refusal}
use Rattle.converge.specs.declared.Refusal.TheVariants.{Rows, Tolerance, Limit, Values, Records}
use Rattle.converge.specs.declared.Verdict.{Verdict}
use Rattle.converge.specs.declared.Verdict.TheVariants.{Settled, Spent, Strayed, Moved, Refused}

-- The number of a refusal.
abbrev pub number_of : Refusal → ℕ
number_of Rows = 30
number_of Tolerance = 31
number_of Limit = 32
number_of Values = 33
number_of Records = 34

-- The number of a method.
abbrev pub method_number : Method → ℕ
method_number Substitution = 1
method_number Wegstein = 2

-- The method of a number, or the refusal for a number that no method has.
abbrev pub Decodes : ℕ → Result Method Refusal → Type 0
Decodes n r = MatchResult r (λ m. method_number m ≡ n) (λ e. (e ≡ Limit) × (n ≢ 1) × (n ≢ 2))

-- The method of a step that isn't refused, or the refusal, where `refusal` is its number or 0.
abbrev pub Accepts : ℕ → ℕ → Result Method Refusal → Type 0
Accepts refusal method r = MatchResult r (λ m. (method_number m ≡ method) × (refusal ≡ 0)) (λ e. refusal ≡ number_of e)

-- The number of a refusal, or 0; the number of a verdict, or 0 where the step is refused; and the double that the verdict carries.
pub record Answer : Type 0 where
  pub refusal : ℕ
  pub number : ℕ
  pub carried : Float

-- 1 Settled, 2 Spent, 3 Strayed or 4 Moved, then the carried double.
abbrev pub settled : Float → Answer
settled v = record { refusal = 0; number = 1; carried = v }

abbrev pub spent : Float → Answer
spent v = record { refusal = 0; number = 2; carried = v }

abbrev pub strayed : Float → Answer
strayed v = record { refusal = 0; number = 3; carried = v }

abbrev pub moved : Float → Answer
moved v = record { refusal = 0; number = 4; carried = v }

-- A refusal returns its number.
abbrev pub refused : ℕ → Answer
refused n = record { refusal = n; number = 0; carried = zero64 }

-- Each case of the enum.
abbrev pub answer_of : Verdict → Answer
answer_of (Settled v) = settled v
answer_of (Spent v) = spent v
answer_of (Strayed v) = strayed v
answer_of (Moved v) = moved v
answer_of (Refused r) = refused (number_of r)
