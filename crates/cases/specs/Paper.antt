-- The cases that were worked out on paper, as one table. A row is a question with the answer that was worked out: a flowsheet and its plan, or a step of
-- one value and its next. A row holds where the answer is what the definitions give that the contracts of `flowsheet`, `planner` and `converge` cite.
-- That every row of `rows` holds is proofs/Paper.antt.
use Rattle.std.specs.Prelude.{cond, ◌≡◌, ℕ, zero, suc, pos, Float, List, [], ◌∷◌, ◌++◌, length, Option, Some, None}
use Rattle.std.specs.Float.{binary64}
use Rattle.std.specs.Float.Ieee.{of_int, neg, sub, div, eq}
use Rattle.flowsheet.specs.Written.{image_of}
use Rattle.flowsheet.specs.declared.Stream.{Stream}
use Rattle.planner.specs.Answer.{Planned, planned_image}
use Rattle.planner.specs.Plan.{BlockPlan, plan_of}
use Rattle.planner.specs.Tables.{plan_value}
use Rattle.converge.specs.Doubles.{zero64}
use Rattle.converge.specs.Value.{rise, factor_of, next_of}
use Rattle.converge.specs.declared.History.{History}

-- the plan of a flowsheet, by its units and streams; or the next of a value, by its record, x and y
pub data Question : Type 0 where
  sheet : List ℕ → List Stream → Question
  step : History → Float → Float → Question

-- how many bytes the flowsheet's image has, what planning on it answers, and the plan block by block; or q where d isn't zero, the factor that q is
-- taken as, and the next
pub data Answer : Type 0 where
  plan : ℕ → Planned → List BlockPlan → Answer
  next : Option Float → Float → Float → Answer

-- q before it is taken as −5 or as 0: dy / d, where d isn't zero
abbrev pub quotient : Float → Float → History → Option Float
quotient x y past = cond (eq (rise x y past) zero64) None (Some (div binary64 (sub binary64 y past.y) (rise x y past)))

-- what the definitions give: planning is lent 65,536 bytes of working memory, and a step goes by Wegstein (method 2) after one move
unfoldable pub answer_to : Question → Answer
answer_to (sheet us ss) = plan (length (image_of us ss)) (planned_image (image_of us ss) 65536) (plan_of us ss)
answer_to (step past x y) = next (quotient x y past) (factor_of x y past) (next_of x y past 1 2)

pub record Row : Type 0 where
  pub question : Question
  pub answer : Answer

abbrev pub Holds : Row → Type 0
Holds r = answer_to r.question ≡ r.answer

-- ---- how a row is written

-- the units 1 to n
abbrev pub units_to : ℕ → List ℕ
units_to zero = []
units_to (suc n) = units_to n ++ (suc n ∷ [])

-- a stream of weight 1
abbrev pub stream : ℕ → ℕ → ℕ → Stream
stream n source receiver = record { number = n; source = source; receiver = receiver; weight = 1 }

abbrev pub block : List ℕ → List ℕ → BlockPlan
block units torn = record { units = units; torn = torn }

-- a block of one unit, with nothing torn
abbrev pub alone : ℕ → BlockPlan
alone n = block (n ∷ []) []

-- an image of so many bytes, which is planned and not refused, and its blocks
abbrev pub planned : ℕ → List BlockPlan → Answer
planned bytes blocks = plan bytes (record { number = 0; plan = plan_value blocks }) blocks

-- the double of a whole number
abbrev pub double : ℕ → Float
double n = of_int binary64 (pos n)

-- a step at x' 100, y' 110, x 110 and this y
abbrev pub step_at : ℕ → Question
step_at y = step (record { x = double 100; y = double 110 }) (double 110) (double y)

-- ---- plans

-- streams 1 to 5 of A, D and E
abbrev pub front : List Stream
front = stream 1 1 2 ∷ stream 2 2 3 ∷ stream 3 3 4 ∷ stream 4 3 7 ∷ stream 5 5 6 ∷ []

-- unit 5's block, unchanged from A to E
abbrev pub block_5 : BlockPlan
block_5 = alone 5

-- a recycle of four units, with units before and after it
abbrev pub case_a : Row
case_a =
    record {
      question = sheet (units_to 7) (front ++ (stream 6 6 2 ∷ stream 7 7 6 ∷ []));
      answer = planned 86 (alone 1 ∷ block_5 ∷ block (2 ∷ 3 ∷ 7 ∷ 6 ∷ []) (6 ∷ []) ∷ alone 4 ∷ []);
    }

-- streams 1 to 7 of the Cavett flowsheet, B and C
abbrev pub cavett : List Stream
cavett = stream 1 6 1 ∷ stream 2 1 2 ∷ stream 3 2 3 ∷ stream 4 3 4 ∷ stream 5 4 5 ∷ stream 6 4 1 ∷ stream 7 2 6 ∷ []

-- the Cavett flowsheet: two tears open its three loops
abbrev pub case_b : Row
case_b =
    record {
      question = sheet (units_to 6) (cavett ++ (stream 8 5 3 ∷ []));
      answer = planned 92 (block (2 ∷ 3 ∷ 4 ∷ 5 ∷ 6 ∷ 1 ∷ []) (2 ∷ 8 ∷ []) ∷ []);
    }

-- B with weight 5 on stream 8
abbrev pub case_c : Row
case_c =
    record {
      question = sheet (units_to 6) (cavett ++ (record (stream 8 5 3) { weight = 5 } ∷ []));
      answer = planned 92 (block (2 ∷ 4 ∷ 5 ∷ 3 ∷ 6 ∷ 1 ∷ []) (2 ∷ 4 ∷ []) ∷ []);
    }

-- A without stream 6: no tears
abbrev pub case_d : Row
case_d =
    record {
      question = sheet (units_to 7) (front ++ (stream 7 7 6 ∷ []));
      answer = planned 78 (alone 1 ∷ alone 2 ∷ alone 3 ∷ alone 4 ∷ alone 5 ∷ alone 7 ∷ alone 6 ∷ []);
    }

-- A with stream 8, which makes one block of A's others
abbrev pub case_e : Row
case_e =
    record {
      question = sheet (units_to 7) (front ++ (stream 6 6 2 ∷ stream 7 7 6 ∷ stream 8 4 1 ∷ []));
      answer = planned 94 (block_5 ∷ block (3 ∷ 4 ∷ 1 ∷ 7 ∷ 6 ∷ 2 ∷ []) (2 ∷ []) ∷ []);
    }

-- one stream, from a higher unit to a lower one
abbrev pub case_f : Row
case_f = record { question = sheet (units_to 3) (stream 1 3 1 ∷ []); answer = planned 30 (alone 2 ∷ alone 3 ∷ alone 1 ∷ []) }

-- one unit with a stream to itself
abbrev pub case_h : Row
case_h = record { question = sheet (units_to 1) (stream 1 1 1 ∷ []); answer = planned 26 (block (1 ∷ []) (1 ∷ []) ∷ []) }

-- ---- steps

-- q is −1
abbrev pub case_j : Row
case_j = record { question = step_at 115; answer = next (Some (neg (double 1))) (neg (double 1)) (double 120) }

-- q is −9, taken as −5
abbrev pub case_k : Row
case_k = record { question = step_at 119; answer = next (Some (neg (double 9))) (neg (double 5)) (double 164) }

-- d is zero, and next is y
abbrev pub case_l_zero : Row
case_l_zero = record { question = step_at 120; answer = next None (double 0) (double 120) }

-- q is 3, taken as 0
abbrev pub case_l_above : Row
case_l_above = record { question = step_at 125; answer = next (Some (double 3)) (double 0) (double 125) }

-- the table
abbrev pub rows : List Row
rows = case_a ∷ case_b ∷ case_c ∷ case_d ∷ case_e ∷ case_f ∷ case_h ∷ case_j ∷ case_k ∷ case_l_zero ∷ case_l_above ∷ []
