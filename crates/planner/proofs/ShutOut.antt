-- Which planners can't keep what planning promises. Assumes nothing.
use mathlib.Core.List.{List, Memᴰ}
use mathlib.Core.Logic.{◌↔◌}
use mathlib.Core.Bool.{false}
use mathlib.Core.Path.{◌≡◌, refl, sym, ap, subst, ◌∙◌}
use Prim.Native.Nat.{ℕ, zero, suc, ◌≤◌, ◌<◌}
use native.Mathlib.Omega.{arith}
use lib.ListN.{length}
use Rattle.std.proofs.Common.{Ok}
use Rattle.flowsheet.specs.Good.{Good}
use Rattle.flowsheet.specs.Image.{unit_list, stream_list, answer_of}
use Rattle.flowsheet.specs.declared.Stream.{Stream}
use Rattle.flowsheet.proofs.Exact.{is_accepted}
use Rattle.flowsheet.proofs.Good.{accepted_good}
use Rattle.planner.specs.Answer.{Planned, planned as told, planned_from, planned_image, Planning}
use Rattle.planner.specs.Demand2.{Feeds, Rules}
use Rattle.planner.specs.Exactly.{Plannable, plan_size, planned}
use Rattle.planner.specs.Plan.{BlockPlan, plan_of, too_large}
use Rattle.planner.specs.Tables.{plan_value}
use Rattle.planner.specs.declared.Plan.{Plan}
use Rattle.planner.proofs.Answers.{plan_told}
use Rattle.planner.proofs.Demand2.{demand2}
use Rattle.planner.proofs.Exact.{planning_exactly}
use Rattle.planner.proofs.Members.{at_mem}
use Rattle.planner.proofs.Tables.{one_list}

-- Shut out: a planner that refuses everything. An image that nothing is wrong with is answered by 0, where buffer and memory are long enough.
pub not_refused : {image buffer work : List ℕ} {code : ℕ} {buffer' work' : List ℕ} → Planning image buffer work code buffer' work'
    → Plannable image → 65536 ≤ length work → plan_size image ≤ length buffer → code ≡ 0
not_refused p plannable memory room = (planning_exactly p 0).1 (planned plannable memory room)

-- Shut out: one fixed plan for all. A plan that keeps the rules for two flowsheets has the units of both, so they have the same.
pub one_plan_one_table : {us vs : List ℕ} {ss ts : List Stream} {plan : List BlockPlan} → Rules us ss plan → Rules vs ts plan → (u : ℕ)
    → Memᴰ u us ↔ Memᴰ u vs
one_plan_one_table r s u = (λ m. s.only u (r.all u m), λ m. r.only u (s.all u m))

-- what the plan of an image tells
image_told : (image : List ℕ) (room : ℕ) (plan : Plan) → told (Ok plan) ≡ planned_image image room
    → (answer_of image ≡ 0) × (too_large (unit_list image) (stream_list image) ≡ false) × (plan ≡ plan_value (plan_of (unit_list image) (stream_list image)))
unfolding planned_image
image_told image room plan e = go (answer_of image) refl e
  where
    go : (k : ℕ) → answer_of image ≡ k → told (Ok plan) ≡ planned_from k image room
        → (answer_of image ≡ 0) × (too_large (unit_list image) (stream_list image) ≡ false) × (plan ≡ plan_value (plan_of (unit_list image) (stream_list image)))
    go zero a e = let t = plan_told (unit_list image) (stream_list image) room plan e in (a, t.0, t.2)
    go (suc k) a e = absurd (omega (arith, ap (λ (x : Planned). x.number) e))

-- So two images that are answered by one plan have the same units.
pub one_answer_one_table : (image other : List ℕ) (room more : ℕ) {plan : Plan} → told (Ok plan) ≡ planned_image image room
    → told (Ok plan) ≡ planned_image other more → (u : ℕ) → Memᴰ u (unit_list image) ↔ Memᴰ u (unit_list other)
one_answer_one_table image other room more {plan} e f =
    let a = image_told image room plan e in
    let b = image_told other more plan f in
    let same = one_list (plan_of (unit_list other) (stream_list other)) (plan_of (unit_list image) (stream_list image)) (sym b.2 ∙ a.2) in
    one_plan_one_table (demand2 (accepted_good image (is_accepted image a.0)) a.1)
    (subst (Rules (unit_list other) (stream_list other)) same (demand2 (accepted_good other (is_accepted other b.0)) b.1))

-- Shut out: outside as a unit. Whatever feeds a unit, and whatever is fed, has a number above 0, so a stream from or to outside closes no loop.
pub outside_feeds_none : {us : List ℕ} {ss : List Stream} → Good us ss → (u v : ℕ) → Feeds us ss u v → (0 < u) × (0 < v)
outside_feeds_none {us} good u v f = (above u f.source, above v f.receiver)
  where
    above : (n : ℕ) → Memᴰ n us → 0 < n
    above n m = let a = at_mem 0 m in omega (arith, (good.units a.0 a.1).low, a.2)
