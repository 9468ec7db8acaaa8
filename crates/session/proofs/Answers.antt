-- What opening and edits answer, from what their parts tell. Assumes nothing.
use Rattle.std.proofs.Common.{◌≡◌, ℕ, zero, suc, ◌≤◌, ◌<◌, true, false, cond, List, [], length, Result, Ok, Err, refl, sym, ap, ◌∙◌, arith}
use borrow.Author.Tests.{le-leb, lt-leb}
use Rattle.flowsheet.specs.Answers.{reading}
use Rattle.flowsheet.specs.Good.{GoodSheet, is_good}
use Rattle.flowsheet.specs.Image.{first, reading_of, unit_list, stream_list}
use Rattle.flowsheet.specs.Sheet.{sheet_of}
use Rattle.flowsheet.specs.declared.Flowsheet.{Flowsheet}
use Rattle.flowsheet.proofs.Good.{read_good}
use Rattle.flowsheet.proofs.Tables.{number_some as sheet_some}
use Rattle.planner.specs.Answer.{number_of as planner_number_of, planned, planned_of, planned_image, Planned, work_after, Spent}
use Rattle.planner.specs.Plan.{too_large}
use Rattle.planner.specs.Tables.{plan_value}
use Rattle.planner.specs.declared.Plan.{Plan}
use Rattle.planner.specs.declared.Refusal.{Refusal as planner_refusal}
use Rattle.planner.proofs.Answers.{plan_told, large_told, image_planned}
use Rattle.planner.proofs.Memory.{spent-cleared}
use Rattle.planner.proofs.SettledPlan.{number_some as plan_some}
use Rattle.planner.proofs.Kept.{plan_none}
use Rattle.session.specs.Answer.{Made, number_of, kept_or, large_number, edit_number, made, made_of, opened, opened_of}
use Rattle.session.specs.Edited.{edited}
use Rattle.session.specs.Refused.{fault_of}
use Rattle.session.specs.Session.{session_of, same_plan, is_held}
use Rattle.session.specs.declared.Edit.{Edit}
use Rattle.session.specs.declared.Refusal.{Refusal}
use Rattle.session.specs.declared.Refusal.TheVariants.{Sheet, LargeBlock, ShortMemory, Number, Held, Full, NotHeld, InUse, LargeAfter, NoSession}
use Rattle.session.specs.declared.Session.{Session}
use Rattle.session.proofs.Held.{large_some}

-- the session of no units and no streams has a plan of no blocks
pub empty_is : record { sheet = sheet_of [] []; plan = plan_value [] } ≡ session_of (sheet_of [] [])
unfolding session_of sheet_of
empty_is = rw plan_none refl

-- a refusal has a number
pub number_some : (r : Refusal) → number_of r ≡ 0 → ⊥
number_some (Sheet r) e = sheet_some r e
number_some LargeBlock e = omega arith
number_some ShortMemory e = omega arith
number_some Number e = omega arith
number_some Held e = omega arith
number_some Full e = omega arith
number_some NotHeld e = omega arith
number_some InUse e = omega arith
number_some LargeAfter e = omega arith
number_some NoSession e = omega arith

-- ---- the test of a session

module _ (s : Session) where
  pub not_good : is_good s.sheet.units s.sheet.streams ≡ false → false ≡ is_held s
  unfolding is_held
  not_good e = rw e refl

  module _ (good : GoodSheet s.sheet) (tested : is_good s.sheet.units s.sheet.streams ≡ true) (room : ℕ) (long : 65536 ≤ room) where
    pub held_planned : (plan : Plan) → planned (Ok plan) ≡ planned_of s.sheet.units s.sheet.streams room → same_plan s.plan plan ≡ is_held s
    unfolding is_held
    held_planned plan is =
        let r = plan_told s.sheet.units s.sheet.streams room plan is in
        rw (tested, le-leb (length s.sheet.units) 64 good.few_units, le-leb (length s.sheet.streams) 256 good.few_streams, r.0, r.2) refl

    pub held_large : (why : planner_refusal) → planned (Err why) ≡ planned_of s.sheet.units s.sheet.streams room → false ≡ is_held s
    unfolding is_held
    held_large why is =
        let r = large_told s.sheet.units s.sheet.streams room long why is in
        rw (tested, le-leb (length s.sheet.units) 64 good.few_units, le-leb (length s.sheet.streams) 256 good.few_streams, r) refl

-- ---- an edit

module _ (e : Edit) (s : Session) (room : ℕ) where
  -- what stands after the edit, where it is accepted
  abbrev sheet : Flowsheet
  sheet = edited e s.sheet

  abbrev refused : ℕ → Made
  refused k = record { number = k; session = s }

  pub short : room < 65536 → refused 12 ≡ made_of e s room
  unfolding made_of edit_number
  short h = rw (lt-leb 65536 room h) refl

  module _ (long : 65536 ≤ room) where
    pub not_held : is_held s ≡ false → refused 26 ≡ made_of e s room
    unfolding made_of edit_number
    not_held h = rw (le-leb 65536 room long, h) refl

    module _ (held : is_held s ≡ true) where
      number_told : edit_number e s room ≡ first (fault_of e s.sheet) (cond (too_large sheet.units sheet.streams) (large_number e) 0)
      unfolding edit_number
      number_told = rw (le-leb 65536 room long, held) refl

      made_told : (k : ℕ) → first (fault_of e s.sheet) (cond (too_large sheet.units sheet.streams) (large_number e) 0) ≡ k
          → kept_or k (session_of sheet) s ≡ made_of e s room
      unfolding made_of
      made_told k h = rw (number_told, h) refl

      -- refused for the flowsheet's sake
      pub faulty : (why : Refusal) → number_of why ≡ fault_of e s.sheet → (answer : Result Session Refusal) → answer ≡ Err why
          → made s answer ≡ made_of e s room
      faulty why h answer is = rw is (go (number_of why) h (number_some why))
        where
          go : (k : ℕ) → k ≡ fault_of e s.sheet → (k ≡ 0 → ⊥) → refused k ≡ made_of e s room
          go zero h some = absurd (some refl)
          go (suc k) h some = made_told (suc k) (rw (← h) refl)

      -- `left`: how long the memory is after the test
      module _ (sound : 0 ≡ fault_of e s.sheet) (left : ℕ) (as_long : left ≡ room) where
        still : 65536 ≤ left
        still = omega (arith, long, as_long)

        -- refused for a block over 12
        pub large : (why : planner_refusal) → planned (Err why) ≡ planned_of sheet.units sheet.streams left → (k : ℕ)
            → k ≡ large_number e → refused k ≡ made_of e s room
        large why is k h =
            go (large_number e) refl h
            (made_told (large_number e) (rw (← sound, large_told sheet.units sheet.streams left still why is) refl))
          where
            go : (n : ℕ) → large_number e ≡ n → k ≡ n → kept_or n (session_of sheet) s ≡ made_of e s room → refused k ≡ made_of e s room
            go zero some q m = absurd (large_some e some)
            go (suc n) some q m = rw q m

        -- made: `after` is the flowsheet that the edit leaves
        pub planned_after : (after : Flowsheet) → after ≡ sheet → (plan : Plan)
            → planned (Ok plan) ≡ planned_of after.units after.streams left
            → record { number = 0; session = record { sheet = after; plan = plan } } ≡ made_of e s room
        unfolding session_of
        planned_after after same plan is =
            let r = plan_told sheet.units sheet.streams left plan (rw same at is) in
            rw (same, r.2) (made_told 0 (rw (← sound, r.0) refl))

-- ---- what is told, and what is left of the memory once it is cleared

pub answered : (m : Made) (work after cleared : List ℕ) → Spent work after → cleared ≡ work_after after → (code : ℕ) (s : Session)
    → record { number = code; session = s } ≡ m → (code ≡ m.number) × (s ≡ m.session) × (cleared ≡ work_after work)
answered m work after cleared spent is code s e =
    (ap (λ (x : Made). x.number) e, ap (λ (x : Made). x.session) e, is ∙ spent-cleared work after spent)

-- ---- opening

module _ (image : List ℕ) (room : ℕ) (s : Session) where
  pub open_refused : (answer : Result Session planner_refusal) (why : planner_refusal) → answer ≡ Err why
      → planned (Err why) ≡ planned_image image room → opened s answer ≡ opened_of s image room
  unfolding opened_of
  open_refused answer why e is = rw (e, ← is) (go (planner_number_of why) (plan_some why))
    where
      go : (k : ℕ) → (k ≡ 0 → ⊥)
          → record { number = k; session = s } ≡ kept_or k (session_of (sheet_of (unit_list image) (stream_list image))) s
      go zero some = absurd (some refl)
      go (suc k) some = refl

  pub open_made : (sheet : Flowsheet) (plan : Plan) → reading (Ok sheet) ≡ reading_of image
      → planned (Ok plan) ≡ planned_of sheet.units sheet.streams room
      → record { number = 0; session = record { sheet = sheet; plan = plan } } ≡ opened_of s image room
  unfolding opened_of session_of
  open_made sheet plan read is =
      let r = read_good image sheet read in
      let n : (planned_image image room).number ≡ 0 = sym (ap (λ (p : Planned). p.number) (image_planned image room sheet read (Ok plan) is)) in
      let t = plan_told sheet.units sheet.streams room plan is in
      rw (n, ← r.1, t.2) refl
