-- What the functions that plan answer is settled, with the memory that they are lent: two results that a statement allows are equal, since
-- a number is that of one refusal. Assumes nothing.
use Rattle.std.proofs.Common.{arith, cond, eqb, ◌≡◌, ℕ, List, [], Result, length, refl, sym, ap, ◌∙◌}
use Rattle.flowsheet.specs.declared.Flowsheet.{Flowsheet}
use Rattle.flowsheet.specs.declared.Refusal.{Refusal as image_refusal}
use Rattle.flowsheet.specs.declared.Refusal.TheVariants.{Short}
use Rattle.flowsheet.proofs.Tables.{number_some as image_some}
use Rattle.flowsheet.proofs.Settled.{refusal_from as image_from}
use Rattle.flowsheet.proofs.Told.{by_number, one_answer}
use Rattle.planner.specs.Answer.{number_of, planned, planned_of, planned_image, code_of, buffer_from, work_after, Planning}
use Rattle.planner.specs.Tables.{plan_value}
use Rattle.planner.specs.declared.Plan.{Plan}
use Rattle.planner.specs.declared.Refusal.{Refusal}
use Rattle.planner.specs.declared.Refusal.TheVariants.{Image, LargeBlock, NoRoom}

refusal_from : ℕ → Refusal
refusal_from n = cond (eqb n 11) LargeBlock (cond (eqb n 12) NoRoom (Image (image_from n)))

from_number : (r : Refusal) → refusal_from (number_of r) ≡ r
unfolding refusal_from image_from
from_number (Image Short) = refl
from_number (Image _) = refl
from_number _ = refl

pub one_refusal : (r s : Refusal) → number_of r ≡ number_of s → r ≡ s
one_refusal = by_number number_of refusal_from from_number

-- a refusal's number is not 0
pub number_some : (r : Refusal) → number_of r ≡ 0 → ⊥
number_some (Image r) e = image_some r e
number_some LargeBlock e = omega arith
number_some NoRoom e = omega arith

-- two answers that are one plan, or one refusal's number and no plan, are equal
pub one_plan : (r s : Result Plan Refusal) → planned r ≡ planned s → r ≡ s
one_plan = one_answer number_of one_refusal number_some planned (λ x. x.number) (λ x. x.plan) (λ p. refl) (λ p. refl) (λ c. refl)

-- and so are two that carry no value and have one code
pub one_code : (r s : Result (Unit {0}) Refusal) → code_of r ≡ code_of s → r ≡ s
one_code = one_answer number_of one_refusal number_some code_of (λ n. n) (λ n. tt) (λ u. refl) (λ u. refl) (λ c. refl)

pub plan_of_settled : (sheet : Flowsheet) (work : List ℕ) (r s : Result Plan Refusal) (w v : List ℕ)
    → planned r ≡ planned_of sheet.units sheet.streams (length work) → w ≡ work_after work
    → planned s ≡ planned_of sheet.units sheet.streams (length work) → v ≡ work_after work → (r ≡ s) × (w ≡ v)
plan_of_settled sheet work r s w v e g f h = (one_plan r s (e ∙ sym f), g ∙ sym h)

pub plan_read_settled : (image work : List ℕ) (r s : Result Plan Refusal) (w v : List ℕ) → planned r ≡ planned_image image (length work)
    → w ≡ work_after work → planned s ≡ planned_image image (length work) → v ≡ work_after work → (r ≡ s) × (w ≡ v)
plan_read_settled image work r s w v e g f h = (one_plan r s (e ∙ sym f), g ∙ sym h)

-- two results of planning on one image, with one buffer and one memory, have one number and leave both alike
pub planning_one : {image buffer work b c w v : List ℕ} {m n : ℕ} → Planning image buffer work m b w → Planning image buffer work n c v
    → (m ≡ n) × (b ≡ c) × (w ≡ v)
planning_one {image} {buffer} {work} e f =
    let same = e.number ∙ sym f.number in (
      same,
      e.written ∙ ap (λ (k : ℕ). buffer_from k (planned_image image (length work)) buffer) same ∙ sym f.written,
      e.memory ∙ sym f.memory,
    )

pub plan_image_settled : (image buffer work : List ℕ) (r s : Result (Unit {0}) Refusal) (b c w v : List ℕ)
    → Planning image buffer work (code_of r) b w → Planning image buffer work (code_of s) c v → (r ≡ s) × (b ≡ c) × (w ≡ v)
plan_image_settled image buffer work r s b c w v e f = let one = planning_one e f in (one_code r s one.0, one.1, one.2)

-- a refusal's number, and reading's refusal as planning's own
pub number_settled : (r : Refusal) (m n : ℕ) → m ≡ number_of r → n ≡ number_of r → m ≡ n
number_settled r m n e f = e ∙ sym f

pub image_settled : (why : image_refusal) (r s : Refusal) → r ≡ Image why → s ≡ Image why → r ≡ s
image_settled why r s e f = e ∙ sym f

pub no_plan_settled : (r s : Plan) → r ≡ plan_value [] → s ≡ plan_value [] → r ≡ s
no_plan_settled r s e f = e ∙ sym f

pub clear_work_settled : (work r s : List ℕ) → r ≡ work_after work → s ≡ work_after work → r ≡ s
clear_work_settled work r s e f = e ∙ sym f
