-- What planning a flowsheet answers and leaves: 11, then 12, then the plan; and rule 5.
use Rattle.std.specs.Prelude.{false, cond, List, [], ◌≡◌, ℕ, zero, suc, ◌<◌, leb, length, drop, Result}
use Rattle.flowsheet.specs.Good.{GoodSheet}
use Rattle.flowsheet.specs.Image.{first, unit_list, stream_list, answer_of}
use Rattle.blocks.specs.declared.Reach.{Reach}
use Rattle.flowsheet.specs.Answers.{number_of as image_number, told, code_by}
use Rattle.flowsheet.specs.declared.Flowsheet.{Flowsheet}
use Rattle.flowsheet.specs.declared.Stream.{Stream}
use Rattle.words.specs.Words.{cleared}
use Rattle.planner.specs.Image.{plan_length, plan_bytes, laid_over}
use Rattle.planner.specs.Plan.{reach_in, block_order, too_large, plan_of}
use Rattle.planner.specs.Tables.{plan_value}
use Rattle.planner.specs.declared.Plan.{Plan}
use Rattle.planner.specs.declared.Refusal.{Refusal}
use Rattle.planner.specs.declared.Refusal.TheVariants.{Image, LargeBlock, NoRoom}

-- the number of each refusal: reading's own, or one of the two that planning adds
abbrev pub number_of : Refusal → ℕ
number_of (Image r) = image_number r
number_of LargeBlock = 11
number_of NoRoom = 12

-- what planning a flowsheet answers: 0 and the plan, or the refusal's number and an empty plan
pub record Planned : Type 0 where
  pub number : ℕ
  pub plan : Plan

-- 11, "a block over 12 units"; 12, "working memory under 65,536 bytes"; 0 where neither is given
unfoldable pub plan_number : List ℕ → List Stream → ℕ → ℕ
plan_number us ss room = cond (too_large us ss) 11 (cond (leb 65536 room) 0 12)

-- a refusal: its number, and an empty plan
abbrev pub refused_plan : ℕ → Planned
refused_plan k = record { number = k; plan = plan_value [] }

-- what a function that plans returns, as such an answer
abbrev pub planned : Result Plan Refusal → Planned
planned answer = told (λ p. record { number = 0; plan = p }) (λ r. refused_plan (number_of r)) answer

abbrev pub planned_as : ℕ → List ℕ → List Stream → Planned
planned_as zero us ss = record { number = 0; plan = plan_value (plan_of us ss) }
planned_as (suc k) us ss = refused_plan (suc k)

unfoldable pub planned_of : List ℕ → List Stream → ℕ → Planned
planned_of us ss room = planned_as (plan_number us ss room) us ss

-- rule 5: "After a call lent that much, accepted or refused, its first 65,536 bytes are zero and the rest stay. A shorter one stays as it was."
unfoldable pub work_after : List ℕ → List ℕ
work_after work = cond (leb 65536 (length work)) (cleared work 65536) work

-- what is left of the working memory before it is cleared: what lies beyond its first 65,536 bytes, and all of a shorter one
pub record Spent (before after : List ℕ) : Type 0 where
  pub long : length after ≡ length before
  pub beyond : drop 65536 after ≡ drop 65536 before
  pub short : length before < 65536 → after ≡ before

-- what stands when the blocks are to be torn: who reaches whom, the blocks' order, and no block over 12
pub record Sorted (sheet : Flowsheet) (reach : Reach) (order : List ℕ) : Type 0 where
  pub sheet_good : GoodSheet sheet
  pub reached : reach.rows ≡ reach_in sheet.units sheet.streams
  pub places : reach.places ≡ length sheet.units
  pub listed : order ≡ block_order sheet.units sheet.streams
  pub small : too_large sheet.units sheet.streams ≡ false

-- ---- planning on an image: "the refusals of reading, then 11, 12"

abbrev pub planned_from : ℕ → List ℕ → ℕ → Planned
planned_from zero image room = planned_of (unit_list image) (stream_list image) room
planned_from (suc k) image room = refused_plan (suc k)

-- reading, then planning with so many bytes of working memory
unfoldable pub planned_image : List ℕ → ℕ → Planned
planned_image image room = planned_from (answer_of image) image room

-- what the plant's program is told: 0, or the refusal's number
abbrev pub code_of : {A : Type 0} → Result A Refusal → ℕ
code_of answer = code_by number_of answer

-- then 12, "plan buffer shorter than the plan"; 0 where the plan is written
abbrev pub number_from : Planned → ℕ → ℕ
number_from p buffer = first p.number (cond (leb (plan_length p.plan) buffer) 0 12)

abbrev pub buffer_from : ℕ → Planned → List ℕ → List ℕ
buffer_from zero p buffer = laid_over (plan_bytes p.plan) buffer
buffer_from (suc k) p buffer = buffer

-- what planning on an image answers and leaves: "A refusal returns its number and changes nothing lent but the working memory, as rule 5 says"
pub record Planning (image buffer work : List ℕ) (code : ℕ) (buffer' work' : List ℕ) : Type 0 where
  pub number : code ≡ number_from (planned_image image (length work)) (length buffer)
  pub written : buffer' ≡ buffer_from code (planned_image image (length work)) buffer
  pub memory : work' ≡ work_after work
