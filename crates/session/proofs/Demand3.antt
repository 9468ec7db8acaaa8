-- Demand 3: edits keep the plan true, and leave the other blocks as they were. Calls go from sessions that calls could have left (`Held`) to
-- such sessions, and there the plan is the one that the planner's laws fix. Assumes nothing.
use Rattle.std.proofs.Common.{◌≡◌, ℕ, refl, sym, ap, subst, subst₂, ◌∙◌}
use mathlib.Core.List.{List, Memᴰ}
use mathlib.Core.Logic.{◌↔◌}
use Rattle.flowsheet.specs.Good.{Good, GoodSheet}
use Rattle.flowsheet.specs.declared.Flowsheet.{Flowsheet}
use Rattle.flowsheet.specs.declared.Stream.{Stream}
use Rattle.planner.specs.Plan.{BlockPlan, plan_of}
use Rattle.planner.specs.Tables.{plan_value}
use Rattle.planner.proofs.Demand2.{demand2, demand2_forward, demand2_only}
use Rattle.planner.proofs.Kept.{NoneAt, stream_kept, weight_kept, unit_kept, others_kept}
use Rattle.planner.proofs.Tables.{one_list}
use Rattle.session.specs.Answer.{Editing}
use Rattle.session.specs.Demand3.{Begun, empty, opened, Run, none, accepted, refused, all_made, Fixed, Stands, Others, Kept, KeepsBlocks, KeepsTrue}
use Rattle.session.specs.Edited.{edited}
use Rattle.session.specs.Refused.{fault_of}
use Rattle.session.specs.Session.{plan_for, session_of, Held}
use Rattle.session.specs.declared.Edit.{Edit}
use Rattle.session.specs.declared.Edit.TheVariants.{AddUnit, RemoveUnit, AddStream, RemoveStream, SetWeight}
use Rattle.session.specs.declared.Session.{Session}
use Rattle.session.proofs.Edited.{Cut, Changed, of_cut, of_changed, mem_whole, mem_old, edited_good, added_stream, removed_stream, weighed_stream, added_unit, removed_unit, one_stream}
use Rattle.session.proofs.Held.{session_held, held_is, empty_held, opening_held, editing_accepted, editing_is, editing_refused, never_26}

-- a block stands in the plan of a list of blocks when it is one of them
pub stands_is : {b : BlockPlan} {plan : List BlockPlan} → Stands b (plan_value plan) ↔ Memᴰ b plan
stands_is {b} {plan} = (
  λ s. subst (λ (bs : List BlockPlan). Memᴰ b bs) (sym (one_list plan s.plan s.tables)) s.of,
  λ m. record { plan = plan; tables = refl; of = m },
)

-- ---- the plan stays true

-- An accepted edit of a session that calls could have left leaves one.
pub editing_held : {e : Edit} {s t : Session} {work work' : List ℕ} → Held s → Editing e s work 0 t work' → Held t
editing_held {e} {s} h x =
    let a = editing_accepted x in
    subst Held (sym (editing_is x)) (session_held (edited e s.sheet) (edited_good e s.sheet h.good a.fault) a.small)

run_held : {s t : Session} {es done : List Edit} → Held s → Run s es done t → Held t
run_held h none = h
run_held h (accepted x r) = run_held (editing_held h x) r
run_held h (refused x r) = run_held (subst Held (sym (editing_refused x)) h) r

begun_held : {s : Session} → Begun s → Held s
begun_held empty = empty_held
begun_held (opened o) = opening_held o

-- Any calls leave a session that calls could have left.
pub always_held : {first t : Session} {es done : List Edit} → Begun first → Run first es done t → Held t
always_held b r = run_held (begun_held b) r

-- So a host that only hands sessions on from call to call never meets 26.
pub handed_on : {first s t : Session} {es done : List Edit} {e : Edit} {work work' : List ℕ} {code : ℕ} → Begun first
    → Run first es done s → Editing e s work code t work' → code ≡ 26 → ⊥
handed_on b r x = never_26 (always_held b r) x

-- the flowsheet of the session after an accepted edit
pub sheet_after : {e : Edit} {s t : Session} {work work' : List ℕ} → Editing e s work 0 t work' → t.sheet ≡ edited e s.sheet
unfolding session_of
sheet_after x = ap (λ (u : Session). u.sheet) (editing_is x)

-- the flowsheet held is the first one with the accepted edits made in order
pub run_sheet : {s t : Session} {es done : List Edit} → Run s es done t → t.sheet ≡ all_made done s.sheet
run_sheet none = refl
run_sheet (accepted {done = done} x r) = run_sheet r ∙ ap (all_made done) (sheet_after x)
run_sheet (refused {done = done} x r) =
    run_sheet r ∙ ap (λ (u : Session). all_made done u.sheet) (editing_refused x)

-- The plan of a session that calls could have left is the one that the rules fix.
pub held_fixed : {s : Session} → Held s → Fixed s.sheet s.plan
held_fixed {s} h =
    record {
      plan = plan_of s.sheet.units s.sheet.streams;
      tables = h.plan;
      rules = demand2 h.good h.small;
      forward = demand2_forward h.good;
      only = demand2_only h.good h.small;
    }

pub keeps_true : KeepsTrue
keeps_true first t es done b r = record { sheet = run_sheet r; plan = held_fixed (always_held b r) }

-- ---- the other blocks stay

module _ (us : List ℕ) {s : Stream} where
  -- each block that doesn't hold both ends of the stream stands in the plan without it
  stream_others : {fewer more : List Stream} → Cut fewer more s → Good us more → Good us fewer
      → Others s (plan_value (plan_of us more)) (plan_value (plan_of us fewer))
  stream_others c with_s without b stands apart =
      stands_is.1
      (of_cut (λ (l m : List Stream). Good us m → Good us l → Memᴰ b (plan_of us m) → Memᴰ b (plan_of us l)) c
      (λ front back g h m. stream_kept front back s g h b m (λ p q. apart (p, q)))
      with_s without (stands_is.0 stands))

  -- and so it does with the stream at another weight
  weight_others : {t : Stream} {before after : List Stream} → s.source ≡ t.source → s.receiver ≡ t.receiver → Changed before after s t
      → Others s (plan_value (plan_of us before)) (plan_value (plan_of us after))
  weight_others {t} source receiver c b stands apart =
      stands_is.1
      (of_changed (λ (l m : List Stream). Memᴰ b (plan_of us l) → Memᴰ b (plan_of us m)) c
      (λ front back m. weight_kept us front back s t source receiver b m (λ p q. apart (p, q)))
      (stands_is.0 stands))

module _ {n : ℕ} {ss : List Stream} (none_at : NoneAt ss n) {fewer more : List ℕ} (c : Cut fewer more n) (with_n : Good more ss)
    (without : Good fewer ss) (b : BlockPlan) where
  -- each block stands in the plan with a unit more
  unit_more : Stands b (plan_value (plan_of fewer ss)) → Stands b (plan_value (plan_of more ss))
  unit_more stands =
      stands_is.1
      (of_cut (λ (l m : List ℕ). Good l ss → Good m ss → Memᴰ b (plan_of l ss) → Memᴰ b (plan_of m ss)) c
      (λ front back g h m. unit_kept n none_at front back g h b m)
      without with_n (stands_is.0 stands))

  -- and but for the unit's own in the plan with it less
  unit_less : Stands b (plan_value (plan_of more ss)) → (Memᴰ n b.units → ⊥) → Stands b (plan_value (plan_of fewer ss))
  unit_less stands other =
      stands_is.1
      (of_cut (λ (l m : List ℕ). Good l ss → Good m ss → Memᴰ b (plan_of m ss) → Memᴰ b (plan_of l ss)) c
      (λ front back g h m. others_kept n none_at front back h g b m other)
      without with_n (stands_is.0 stands))

turned : {before after : List Stream} {s t : Stream} → Changed before after s t → Changed after before t s
turned c = record { front = c.front; back = c.back; old = c.new; new = c.old }

-- what an edit that the flowsheet doesn't refuse keeps
edit_keeps : (e : Edit) (f : Flowsheet) → GoodSheet f → fault_of e f ≡ 0 → Kept e (session_of f) (session_of (edited e f))
unfolding session_of edited
edit_keeps (AddUnit n) f good z =
    let c = added_unit f n good z in
    let after = edited_good (AddUnit n) f good z in (unit_more c.1 c.0 after good, unit_less c.1 c.0 after good)
edit_keeps (RemoveUnit n) f good z =
    let c = removed_unit f n z in
    let after = edited_good (RemoveUnit n) f good z in (unit_less c.1 c.0 good after, unit_more c.1 c.0 good after)
edit_keeps (AddStream s) f good z = stream_others f.units (added_stream f s).0 (edited_good (AddStream s) f good z) good
edit_keeps (RemoveStream n) f good z = λ s m e.
    let c = removed_stream f n z in
    let same : c.0 ≡ s = one_stream good c.0 s (mem_whole c.2) m (c.1 ∙ sym e) in
    subst (λ (x : Stream). Others x (plan_for f) (plan_for (edited (RemoveStream n) f))) same
    (stream_others f.units c.2 good (edited_good (RemoveStream n) f good z))
edit_keeps (SetWeight n w) f good z = λ s m e.
    let c = weighed_stream f n w z in
    let same : c.0 ≡ s = one_stream good c.0 s (mem_old c.2) m (c.1 ∙ sym e) in
    let after = edited (SetWeight n w) f in
    subst (λ (x : Stream). Others x (plan_for f) (plan_for after) × Others x (plan_for after) (plan_for f)) same
    (weight_others f.units refl refl c.2, weight_others f.units refl refl (turned c.2))

pub keeps_blocks : KeepsBlocks
keeps_blocks e s t first es done work work' b r x =
    let h = always_held b r in
    subst₂ (Kept e) (sym (held_is h)) (sym (editing_is x)) (edit_keeps e s.sheet h.good (editing_accepted x).fault)
