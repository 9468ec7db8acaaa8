-- The number of each refusal, 0 where nothing is refused, and the value that an answer carries.
use Rattle.std.specs.Prelude.{ℕ, Result, Ok, Err}
use Rattle.std.specs.Result.{result_map_both}
use Rattle.flowsheet.specs.Image.{Reading, refused_with}
use Rattle.flowsheet.specs.declared.Flowsheet.{Flowsheet}
use Rattle.flowsheet.specs.declared.Refusal.{Refusal}
use Rattle.flowsheet.specs.declared.Refusal.TheVariants.{Short, Edition, Spare, Counts, Layout, UnitNumber, StreamNumber, End, Outside, Weight}

abbrev pub number_of : Refusal → ℕ
number_of Short = 1
number_of Edition = 2
number_of Spare = 3
number_of Counts = 4
number_of Layout = 5
number_of UnitNumber = 6
number_of StreamNumber = 7
number_of End = 8
number_of Outside = 9
number_of Weight = 10

-- ---- an answer in numbers, of this crate and of those above it

-- what an answer tells, by its value or by its refusal
abbrev pub told : {A E T : Type 0} → (A → T) → (E → T) → Result A E → T
told value refusal (Ok a) = value a
told value refusal (Err r) = refusal r

-- its number: the refusal's, by the numbers of its kind, or 0
abbrev pub code_by : {A E : Type 0} → (E → ℕ) → Result A E → ℕ
code_by number answer = told (λ a. 0) number answer

-- the number that is refused with
abbrev pub fault_of : {A : Type 0} → Result A Refusal → ℕ
fault_of answer = code_by number_of answer

-- an answer with the number for the refusal
abbrev pub numbered : {A : Type 0} → Result A Refusal → Result A ℕ
numbered answer = result_map_both (λ a. a) number_of answer

-- the number in such an answer, 0 where nothing is refused
abbrev pub number_in : {A : Type 0} → Result A ℕ → ℕ
number_in answer = code_by (λ k. k) answer

-- what reading an image answers: 0 and the flowsheet, or the refusal's number and an empty flowsheet
abbrev pub reading : Result Flowsheet Refusal → Reading
reading answer = told (λ s. record { number = 0; sheet = s }) (λ r. refused_with (number_of r)) answer
