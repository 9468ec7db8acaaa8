-- Programs that the promises of edits shut out: sessions that ignore what they accept, that refuse all, or that work at the first edits and feign
-- the rest. Each law says of what a call promises (`Editing`, `Run`) that it can't be kept in that way. Assumes nothing.
use Rattle.std.proofs.Common.{false, ◌≡◌, ℕ, ◌≤◌, List, [], ◌∷◌, ◌++◌, map, take, drop, length, refl, sym, ap, subst, ◌∙◌, arith}
use borrow.Author.Tests.{le-leb}
use mathlib.Core.List.Memᴰ
use mathlib.Core.List.{Memᴰ, map-append}
use lib.ListN.{length-append}
use Rattle.flowsheet.specs.Good.{Good}
use Rattle.flowsheet.specs.declared.Flowsheet.{Flowsheet}
use Rattle.flowsheet.specs.declared.Stream.{Stream}
use Rattle.planner.specs.Plan.{too_large}
use Rattle.planner.specs.Tables.{plan_value}
use Rattle.planner.specs.declared.Plan.{Plan}
use Rattle.planner.proofs.Demand2.{demand2}
use Rattle.planner.proofs.Linked.{units_distinct}
use Rattle.planner.proofs.Members.{mem_middle, distinct_once, rises_distinct}
use Rattle.planner.proofs.TornStreams.{streams_rise}
use Rattle.session.specs.Answer.{Editing, edit_number, made_of}
use Rattle.session.specs.Demand3.{Begun, Run, all_made}
use Rattle.session.specs.Edited.{unit_turn, weighing, edited}
use Rattle.session.specs.Refused.{fault_of}
use Rattle.session.specs.Session.{Held}
use Rattle.session.specs.declared.Edit.{Edit}
use Rattle.session.specs.declared.Edit.TheVariants.{AddUnit, RemoveUnit, AddStream, RemoveStream, SetWeight}
use Rattle.session.specs.declared.Session.{Session}
use Rattle.session.proofs.Demand3.{always_held, editing_held, run_sheet, sheet_after}
use Rattle.session.proofs.Edited.{Cut, Changed, of_cut, of_changed, mem_whole, added_unit, removed_unit, added_stream, removed_stream, weighed_stream, edited_small}
use Rattle.session.proofs.Held.{held_tested, editing_accepted}

-- two lists of which one has an item more are two
cut_two : {A : Type 0} {fewer more : List A} {x : A} → Cut fewer more x → more ≡ fewer → ⊥
cut_two {A} {x = x} c e =
    of_cut (λ (l m : List A). m ≡ l → ⊥) c
    (λ front back h. omega (arith, ap length h, length-append front back, length-append front (x ∷ back))) e

-- what stands in the place of what is changed
mem_new : {A : Type 0} {before after : List A} {x y : A} → Changed before after x y → Memᴰ y after
mem_new {A} {y = y} c = of_changed (λ (l m : List A). Memᴰ y m) c (λ front back. mem_middle front back)

abbrev number : Stream → ℕ
number s = s.number

-- a stream cut out of a good flowsheet's leaves none of its number
cut_number : {us : List ℕ} {fewer more : List Stream} {s : Stream} → Cut fewer more s → Good us more → (r : Stream) → Memᴰ r fewer
    → r.number ≡ s.number → ⊥
cut_number {us} {s = s} c good r m e =
    of_cut (λ (l k : List Stream). Good us k → Memᴰ r l → ⊥) c
    (λ front back g m.
    distinct_once (map number front) (map number back) s.number
    (rw (map-append number front (s ∷ back)) at (rises_distinct (streams_rise g)))
    (subst (λ (l : List ℕ). Memᴰ s.number l) (map-append number front back) (Memᴰ.cast (sym e) (Memᴰ.map number m))))
    good m

-- a unit that is added is there
unit_in : (n : ℕ) (f : Flowsheet) → Memᴰ n (edited (AddUnit n) f).units
unfolding edited
unit_in n f = mem_middle (take (unit_turn f.units n) f.units) (drop (unit_turn f.units n) f.units)

module _ {s t : Session} {work work' : List ℕ} (h : Held s) where
  -- the units and the streams before and after
  units_after : {e : Edit} → Editing e s work 0 t work' → t.sheet.units ≡ (edited e s.sheet).units
  units_after x = ap (λ (f : Flowsheet). f.units) (sheet_after x)

  streams_after : {e : Edit} → Editing e s work 0 t work' → t.sheet.streams ≡ (edited e s.sheet).streams
  streams_after x = ap (λ (f : Flowsheet). f.streams) (sheet_after x)

  -- Shut out: a session that answers 0 to a unit and ignores it.
  pub unit_there : {n : ℕ} → Editing (AddUnit n) s work 0 t work' → Memᴰ n t.sheet.units × (t ≡ s → ⊥)
  unit_there {n} x =
      let c = (added_unit s.sheet n h.good (editing_accepted x).fault).0 in (
        subst (λ (l : List ℕ). Memᴰ n l) (sym (units_after x)) (mem_whole c),
        λ e. cut_two c (sym (units_after x) ∙ ap (λ (u : Session). u.sheet.units) e),
      )

  -- Shut out: one that answers 0 to a stream and ignores it.
  pub stream_there : {r : Stream} → Editing (AddStream r) s work 0 t work' → Memᴰ r t.sheet.streams × (t ≡ s → ⊥)
  stream_there {r} x =
      let c = (added_stream s.sheet r).0 in (
        subst (λ (l : List Stream). Memᴰ r l) (sym (streams_after x)) (mem_whole c),
        λ e. cut_two c (sym (streams_after x) ∙ ap (λ (u : Session). u.sheet.streams) e),
      )

  -- Shut out: one that answers 0 to the removal of a unit and keeps it.
  pub unit_gone : {n : ℕ} → Editing (RemoveUnit n) s work 0 t work' → (Memᴰ n t.sheet.units → ⊥) × (t ≡ s → ⊥)
  unit_gone {n} x =
      let c = (removed_unit s.sheet n (editing_accepted x).fault).0 in (
        λ m.
            of_cut (λ (l k : List ℕ). Good k s.sheet.streams → Memᴰ n l → ⊥) c
            (λ front back g. distinct_once front back n (units_distinct g))
            h.good
            (subst (λ (l : List ℕ). Memᴰ n l) (units_after x) m),
        λ e. cut_two c (sym (ap (λ (u : Session). u.sheet.units) e) ∙ units_after x),
      )

  -- Shut out: one that answers 0 to the removal of a stream and keeps it.
  pub stream_gone : {n : ℕ} → Editing (RemoveStream n) s work 0 t work'
      → ((r : Stream) → Memᴰ r t.sheet.streams → r.number ≡ n → ⊥) × (t ≡ s → ⊥)
  stream_gone {n} x =
      let c = removed_stream s.sheet n (editing_accepted x).fault in (
        λ r m e. cut_number c.2 h.good r (subst (λ (l : List Stream). Memᴰ r l) (streams_after x) m) (e ∙ sym c.1),
        λ e. cut_two c.2 (sym (ap (λ (u : Session). u.sheet.streams) e) ∙ streams_after x),
      )

  -- Shut out: one that answers 0 to a weight and doesn't set it.
  pub weight_there : {n w : ℕ} → Editing (SetWeight n w) s work 0 t work'
      → (r : Stream) × Memᴰ r t.sheet.streams × (r.number ≡ n) × (r.weight ≡ w)
  weight_there {n} {w} x =
      let c = weighed_stream s.sheet n w (editing_accepted x).fault in
      (weighing w c.0, subst (λ (l : List Stream). Memᴰ (weighing w c.0) l) (sym (streams_after x)) (mem_new c.2), c.1, refl)

-- Shut out: a session that refuses what nothing is wrong with. With enough memory, an edit that the flowsheet doesn't refuse and that leaves no
-- block over 12 units is answered by 0.
pub not_refused : {e : Edit} {s t : Session} {work work' : List ℕ} {code : ℕ} → Held s → 65536 ≤ length work → fault_of e s.sheet ≡ 0
    → too_large (edited e s.sheet).units (edited e s.sheet).streams ≡ false → Editing e s work code t work' → code ≡ 0
unfolding made_of edit_number
not_refused {s = s} {work = work} h long fault small x =
    x.number ∙ rw (le-leb 65536 (length work) long, held_tested s h, fault, small)

-- An edit that adds no stream makes no block larger, so it is refused for the flowsheet's sake alone.
pub not_large : {e : Edit} {s t : Session} {work work' : List ℕ} {code : ℕ} → Held s → 65536 ≤ length work → fault_of e s.sheet ≡ 0
    → ((r : Stream) → e ≡ AddStream r → ⊥) → Editing e s work code t work' → code ≡ 0
not_large {e} {s} h long fault other x = not_refused h long fault (edited_small e s.sheet h.good fault h.small other) x

-- Shut out: a session that works at the first edits and feigns the rest. However many edits were made and refused before, an accepted unit is
-- among the units and in the plan, and the session is another.
pub later_edits_too : {first s t : Session} {es done : List Edit} {n : ℕ} {work work' : List ℕ} → Begun first → Run first es done s
    → Editing (AddUnit n) s work 0 t work' → Memᴰ n t.sheet.units × Memᴰ n t.plan.order × (t ≡ s → ⊥)
unfolding plan_value
later_edits_too {t = t} {n = n} b r x =
    let before = always_held b r in
    let after = editing_held before x in
    let there = unit_there before x in (
      there.0,
      subst (λ (p : Plan). Memᴰ n p.order) (sym after.plan) ((demand2 after.good after.small).all n there.0),
      there.1,
    )

-- And it stays there whatever is refused after it.
pub last_unit_stays : {first t : Session} {es : List Edit} (done : List Edit) (n : ℕ) → Run first es (done ++ (AddUnit n ∷ [])) t
    → Memᴰ n t.sheet.units
last_unit_stays {first} done n r =
    subst (λ (f : Flowsheet). Memᴰ n f.units) (sym (run_sheet r ∙ all_then done first.sheet)) (unit_in n (all_made done first.sheet))
  where
    all_then : (done : List Edit) (f : Flowsheet) → all_made (done ++ (AddUnit n ∷ [])) f ≡ edited (AddUnit n) (all_made done f)
    all_then [] f = refl
    all_then (e ∷ done) f = all_then done (edited e f)
