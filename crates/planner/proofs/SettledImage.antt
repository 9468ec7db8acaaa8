-- What the functions on the plan's image and the screen's part answer is settled, with the memory that they are lent: two results that a
-- statement allows are equal. Of a part that is handed back that is its numbers and where it lies. Assumes nothing.
use mathlib.Core.List.{List}
use mathlib.Core.Path.{◌≡◌, sym, ◌∙◌}
use Prim.Native.Nat.{ℕ}
use denote.Ref.{Bor}
use Rattle.planner.specs.Image.{plan_bytes, plan_length, laid_over}
use Rattle.planner.specs.Part.{Handed}
use Rattle.planner.specs.declared.Asked.{Asked}
use Rattle.planner.specs.declared.Plan.{Plan}

pub image_length-settled : (p : Plan) (r s : ℕ) → r ≡ plan_length p → s ≡ plan_length p → r ≡ s
image_length-settled p r s e f = e ∙ sym f

pub put_plan_settled : (p : Plan) (before after after' : List ℕ) → after ≡ laid_over (plan_bytes p) before → after' ≡ laid_over (plan_bytes p) before
    → after ≡ after'
put_plan_settled p before after after' e f = e ∙ sym f

pub part_settled : (asked : Asked) (blocks order torn : Bor (List ℕ)) (place : ℕ) {r s : Bor (List ℕ)}
    → Handed asked blocks order torn place r → Handed asked blocks order torn place s → (r.now ≡ s.now) × (r.ref_ptr ≡ s.ref_ptr)
part_settled asked blocks order torn place e f = (e.numbers ∙ sym f.numbers, e.lies ∙ sym f.lies)
