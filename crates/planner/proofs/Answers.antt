-- What planning answers, from what its parts tell: what reading gave, whether a block is over 12, whether the memory is long enough,
-- whether the plan fits its buffer. Assumes nothing.
use mathlib.Core.Bool.{Bool, true, false, cond}
use mathlib.Core.List.{List, [], ◌∷◌, map}
use mathlib.Core.Path.{◌≡◌, refl, sym, ap, ◌∙◌}
use Prim.Native.Nat.{ℕ, zero, suc, ◌≤◌, ◌<◌}
use native.Mathlib.Omega.{arith}
use borrow.Author.Tests.{le-leb, lt-leb, leb-true}
use lib.Dec.{leb}
use lib.ListN.{length}
use Rattle.blocks.specs.Blocks.{members_of}
use Rattle.blocks.specs.Order.{order_of}
use Rattle.blocks.specs.Reach.{reach_of}
use Rattle.blocks.specs.declared.Reach.{Reach}
use Rattle.flowsheet.specs.Good.{GoodSheet}
use Rattle.flowsheet.specs.Answers.{number_of as image_number, reading}
use Rattle.flowsheet.specs.Image.{first, reading_of}
use Rattle.flowsheet.specs.Sheet.{sheet_of}
use Rattle.flowsheet.specs.declared.Flowsheet.{Flowsheet}
use Rattle.flowsheet.specs.declared.Refusal.{Refusal as image_refusal}
use Rattle.flowsheet.specs.declared.Stream.{Stream}
use Rattle.flowsheet.proofs.Good.{read_good, read_refused}
use Rattle.flowsheet.proofs.Tables.{number_some as image_some}
use Rattle.planner.specs.Answer.{Planned, plan_number, refused_plan, planned, planned_as, planned_of, planned_from, planned_image, number_from, buffer_from, Sorted}
use Rattle.planner.specs.Image.{plan_length}
use Rattle.planner.specs.Links.{links_of}
use Rattle.planner.specs.Plan.{reach_in, block_at, block_order, blocks_of, any_over, too_large, plan_of}
use Rattle.planner.specs.Tables.{plan_value}
use Rattle.planner.specs.declared.Plan.{Plan}
use Rattle.planner.specs.declared.Refusal.{Refusal}
use Rattle.planner.specs.declared.Refusal.TheVariants.{Image}
use Rattle.std.specs.Prelude.{Result, Ok, Err}
use Rattle.planner.proofs.SettledPlan.{number_some}
use Rattle.planner.proofs.Turns.{units_in-length}

over_same : (f g : ℕ → List ℕ) (o : List ℕ) → ((p : ℕ) → length (f p) ≡ length (g p)) → any_over (map f o) ≡ any_over (map g o)
over_same f g [] h = refl
over_same f g (p ∷ o) h = rw (h p, over_same f g o h)

-- who reaches whom in a good flowsheet, its blocks' order, and what planning answers with so many bytes of working memory
module _ (sheet : Flowsheet) (g : GoodSheet sheet) (reach : Reach) (is : reach.rows ≡ reach_of (links_of sheet.units sheet.streams))
    (places : reach.places ≡ length sheet.units) (order : List ℕ) (e : order ≡ order_of reach.rows reach.places) where
  abbrev us : List ℕ
  us = sheet.units

  abbrev ss : List Stream
  ss = sheet.streams

  -- whether some block is over 12
  abbrev over : Bool
  over = any_over (map (members_of reach.rows reach.places) order)

  reached : reach.rows ≡ reach_in us ss
  unfolding reach_in
  reached = is

  listed : order ≡ block_order us ss
  unfolding block_order
  listed = e ∙ ap (λ (t : List ℕ). order_of t reach.places) reached ∙ ap (order_of (reach_in us ss)) places

  -- the members of the blocks are as many as their units
  large_is : over ≡ too_large us ss
  unfolding too_large blocks_of block_at
  large_is =
      ap (λ (o : List ℕ). any_over (map (members_of reach.rows reach.places) o)) listed
      ∙ ap (λ (t : List ℕ). any_over (map (members_of t reach.places) (block_order us ss))) reached
      ∙ ap (λ (n : ℕ). any_over (map (members_of (reach_in us ss) n) (block_order us ss))) places
      ∙ over_same (members_of (reach_in us ss) (length us)) (block_at us ss) (block_order us ss)
      (λ p. sym (units_in-length us (members_of (reach_in us ss) (length us) p)))

  pub sorted : over ≡ false → Sorted sheet reach order
  sorted small = record { sheet_good = g; reached = reached; places = places; listed = listed; small = sym large_is ∙ small }

  module _ (room : ℕ) where
    pub planned_large : over ≡ true → refused_plan 11 ≡ planned_of us ss room
    unfolding planned_of plan_number
    planned_large large = rw (← large_is, large)

    pub planned_short : over ≡ false → room < 65536 → refused_plan 12 ≡ planned_of us ss room
    unfolding planned_of plan_number
    planned_short small h = rw (← large_is, small, lt-leb 65536 room h)

    pub planned_made : over ≡ false → 65536 ≤ room → (plan : Plan) → plan ≡ plan_value (plan_of us ss) → record { number = 0; plan = plan } ≡ planned_of us ss room
    unfolding planned_of plan_number
    planned_made small h plan made = rw (← large_is, small, le-leb 65536 room h, made)

-- ---- what an answer tells

module _ (us : List ℕ) (ss : List Stream) (room : ℕ) where
  -- the answer, by whether a block is over 12 and whether the memory is long enough
  abbrev by : Bool → Bool → Planned
  by large long = planned_as (cond large 11 (cond long 0 12)) us ss

  -- no refusal: no block is over 12, the memory is long enough, and the plan is the flowsheet's
  pub zero_told : (planned_of us ss room).number ≡ 0
      → (too_large us ss ≡ false) × (65536 ≤ room) × ((planned_of us ss room).plan ≡ plan_value (plan_of us ss))
  unfolding planned_of plan_number
  zero_told e = go (too_large us ss) (leb 65536 room) refl refl e
    where
      go : (large long : Bool) → too_large us ss ≡ large → leb 65536 room ≡ long → (by large long).number ≡ 0
          → (too_large us ss ≡ false) × (65536 ≤ room) × ((by large long).plan ≡ plan_value (plan_of us ss))
      go true long h r e = absurd (omega arith)
      go false false h r e = absurd (omega arith)
      go false true h r e = (h, leb-true 65536 room r, refl)

  -- so it is with a plan
  pub plan_told : (plan : Plan) → planned (Ok plan) ≡ planned_of us ss room
      → (too_large us ss ≡ false) × (65536 ≤ room) × (plan ≡ plan_value (plan_of us ss))
  plan_told plan e =
      let r = zero_told (sym (ap (λ (x : Planned). x.number) e)) in (r.0, r.1, ap (λ (x : Planned). x.plan) e ∙ r.2)

  -- a refusal where the memory is long enough: some block is over 12
  pub large_told : 65536 ≤ room → (why : Refusal) → planned (Err why) ≡ planned_of us ss room → too_large us ss ≡ true
  unfolding planned_of plan_number
  large_told long why e = go (too_large us ss) refl (rw (le-leb 65536 room long) at e)
    where
      go : (large : Bool) → too_large us ss ≡ large → planned (Err why) ≡ by large true → too_large us ss ≡ true
      go true h e = h
      go false h e = absurd (number_some why (ap (λ (x : Planned). x.number) e))

-- ---- planning on an image

module _ (image : List ℕ) (room : ℕ) where
  pub image_refused : (why : image_refusal) → reading (Err why) ≡ reading_of image → (answer : Result Plan Refusal) → answer ≡ Err (Image why)
      → planned answer ≡ planned_image image room
  unfolding planned_image
  image_refused why e answer is = rw (is, read_refused image why e) (go (image_number why) (image_some why))
    where
      go : (n : ℕ) → (n ≡ 0 → ⊥) → refused_plan n ≡ planned_from n image room
      go zero f = absurd (f refl)
      go (suc n) f = refl

  pub image_planned : (sheet : Flowsheet) → reading (Ok sheet) ≡ reading_of image → (answer : Result Plan Refusal)
      → planned answer ≡ planned_of sheet.units sheet.streams room → planned answer ≡ planned_image image room
  unfolding planned_image sheet_of
  image_planned sheet e answer is = let r = read_good image sheet e in is ∙ rw (r.0, r.1)

pub image_good : (image : List ℕ) (sheet : Flowsheet) → reading (Ok sheet) ≡ reading_of image → GoodSheet sheet
image_good image sheet e = (read_good image sheet e).2

-- ---- writing the plan

module _ (p : Planned) (buffer : List ℕ) where
  pub write_refused : (p.number ≡ 0 → ⊥) → (p.number ≡ number_from p (length buffer)) × (buffer ≡ buffer_from p.number p buffer)
  write_refused f = go p.number f
    where
      go : (k : ℕ) → (k ≡ 0 → ⊥) → (k ≡ first k (cond (leb (plan_length p.plan) (length buffer)) 0 12)) × (buffer ≡ buffer_from k p buffer)
      go zero g = absurd (g refl)
      go (suc k) g = (refl, refl)

  pub write_short : p.number ≡ 0 → length buffer < plan_length p.plan → 12 ≡ number_from p (length buffer)
  write_short e h = rw (e, lt-leb (plan_length p.plan) (length buffer) h)

  pub write_made : p.number ≡ 0 → plan_length p.plan ≤ length buffer → 0 ≡ number_from p (length buffer)
  write_made e h = rw (e, le-leb (plan_length p.plan) (length buffer) h)
