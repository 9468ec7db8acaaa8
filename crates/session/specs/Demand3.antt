-- Demand 3: edits keep the plan true. A reader who believes the rules' words on edits believes this file: what calls may come after one another, what the
-- flowsheet and the plan held are after each, and which blocks an edit leaves exactly as they were. It speaks of calls by what they promise alone
-- (`Opening`, `Editing`). That all of it holds is in proofs/Demand3.antt.
use Rattle.std.specs.Prelude.{◌≡◌, ℕ, suc}
use mathlib.Core.List.{List, [], ◌∷◌, Memᴰ}
use Rattle.flowsheet.specs.Sheet.{sheet_of}
use Rattle.flowsheet.specs.declared.Flowsheet.{Flowsheet}
use Rattle.flowsheet.specs.declared.Stream.{Stream}
use Rattle.planner.specs.Demand2.{Rules, Forward}
use Rattle.planner.specs.Plan.{BlockPlan}
use Rattle.planner.specs.Tables.{plan_value}
use Rattle.planner.specs.declared.Plan.{Plan}
use Rattle.session.specs.Answer.{Editing, Opening}
use Rattle.session.specs.Edited.{edited}
use Rattle.session.specs.Session.{session_of}
use Rattle.session.specs.declared.Edit.{Edit}
use Rattle.session.specs.declared.Edit.TheVariants.{AddUnit, RemoveUnit, AddStream, RemoveStream, SetWeight}
use Rattle.session.specs.declared.Session.{Session}

-- ---- calls one after the other

-- "from an empty session or an accepted image": where a host begins, whatever session it had before
pub data Begun : Session → Type 0 where
  empty : Begun (session_of (sheet_of [] []))
  opened : {s t : Session} {image work work' : List ℕ} → Opening s image work 0 t work' → Begun t

-- from one session, any list of edits, each accepted or refused, with any memory; the accepted ones in order; and the session that is left
pub data Run : Session → List Edit → List Edit → Session → Type 0 where
  none : {s : Session} → Run s [] [] s
  accepted : {e : Edit} {s s' t : Session} {work work' : List ℕ} {es done : List Edit}
      → Editing e s work 0 s' work' → Run s' es done t → Run s (e ∷ es) (e ∷ done) t
  refused : {e : Edit} {k : ℕ} {s s' t : Session} {work work' : List ℕ} {es done : List Edit}
      → Editing e s work (suc k) s' work' → Run s' es done t → Run s (e ∷ es) done t

-- the flowsheet with the edits made in order
abbrev pub all_made : List Edit → Flowsheet → Flowsheet
all_made [] f = f
all_made (e ∷ es) f = all_made es (edited e f)

-- the plan held is the one that the rules fix: its tables are those of a plan that keeps them, and no other plan does
pub record Fixed (f : Flowsheet) (p : Plan) : Type 0 where
  pub plan : List BlockPlan
  pub tables : p ≡ plan_value plan
  pub rules : Rules f.units f.streams plan
  pub forward : Forward f.units f.streams plan
  pub only : (other : List BlockPlan) → Rules f.units f.streams other → other ≡ plan

-- what stands after any calls: "the flowsheet held is the first one with the accepted edits made in order, and the plan held is what demand 2
-- fixes for it"
pub record Holds (first : Flowsheet) (done : List Edit) (t : Session) : Type 0 where
  pub sheet : t.sheet ≡ all_made done first
  pub plan : Fixed t.sheet t.plan

-- ---- what an edit leaves as it was

-- the block, with these units in this order and these torn streams, stands in the plan
pub record Stands (b : BlockPlan) (p : Plan) : Type 0 where
  pub plan : List BlockPlan
  pub tables : p ≡ plan_value plan
  pub of : Memᴰ b plan

-- the block holds both ends of the stream
abbrev pub Both : Stream → BlockPlan → Type 0
Both s b = Memᴰ s.source b.units × Memᴰ s.receiver b.units

-- each block of the one plan that doesn't hold both ends of the stream stands in the other
abbrev pub Others : Stream → Plan → Plan → Type 0
Others s p q = (b : BlockPlan) → Stands b p → (Both s b → ⊥) → Stands b q

-- "take the flowsheet that has the stream (after adding, before removing, either for a weight): each of its blocks that doesn't hold both ends
-- stands in the plans before and after with equal units, inner order and torn streams. Adding or removing a unit changes none of these in any
-- other block": of an accepted edit, with the session before and the one after
abbrev pub Kept : Edit → Session → Session → Type 0
Kept (AddStream s) before after = Others s after.plan before.plan
Kept (RemoveStream n) before after = (s : Stream) → Memᴰ s before.sheet.streams → s.number ≡ n → Others s before.plan after.plan
Kept (SetWeight n w) before after =
    (s : Stream) → Memᴰ s before.sheet.streams → s.number ≡ n → Others s before.plan after.plan × Others s after.plan before.plan
Kept (AddUnit n) before after =
    ((b : BlockPlan) → Stands b before.plan → Stands b after.plan)
    × ((b : BlockPlan) → Stands b after.plan → (Memᴰ n b.units → ⊥) → Stands b before.plan)
Kept (RemoveUnit n) before after =
    ((b : BlockPlan) → Stands b before.plan → (Memᴰ n b.units → ⊥) → Stands b after.plan)
    × ((b : BlockPlan) → Stands b after.plan → Stands b before.plan)

-- the second part: any accepted edit of a session that calls could have left keeps the other blocks
abbrev pub KeepsBlocks : Type 0
KeepsBlocks =
    (e : Edit) (s t : Session) (first : Session) (es done : List Edit) (work work' : List ℕ)
    → Begun first → Run first es done s → Editing e s work 0 t work' → Kept e s t

-- the first part
abbrev pub KeepsTrue : Type 0
KeepsTrue = (first t : Session) (es done : List Edit) → Begun first → Run first es done t → Holds first.sheet done t
