-- "A session is one that calls could have left when its flowsheet would be accepted as an image, its plan is the one the rules fix for it, and
-- every place beyond its counts is zero."
use Rattle.std.specs.Prelude.{Bool, false, not, ◌&&◌, ◌≡◌, leb, length, nat_eq}
use Rattle.std.specs.Cmp.Lexicographic.{pointwise}
use Rattle.flowsheet.specs.Good.{GoodSheet, is_good}
use Rattle.flowsheet.specs.declared.Flowsheet.{Flowsheet}
use Rattle.planner.specs.Plan.{too_large, plan_of}
use Rattle.planner.specs.Tables.{plan_value}
use Rattle.planner.specs.declared.Plan.{Plan}
use Rattle.session.specs.declared.Session.{Session}

-- the plan that the rules fix for a flowsheet (Demand2 of the planner says so of `plan_of`)
abbrev pub plan_for : Flowsheet → Plan
plan_for f = plan_value (plan_of f.units f.streams)

-- a flowsheet with its plan
unfoldable pub session_of : Flowsheet → Session
session_of f = record { sheet = f; plan = plan_for f }

-- Calls could have left it. That the places beyond its counts are zero is a fact of its rows' type; that a good flowsheet is one that would be
-- accepted as an image is in flowsheet's ReadBack.
pub record Held (s : Session) : Type 0 where
  pub good : GoodSheet s.sheet
  pub small : too_large s.sheet.units s.sheet.streams ≡ false
  pub plan : s.plan ≡ plan_for s.sheet

-- ---- the test of it

abbrev pub same_plan : Plan → Plan → Bool
same_plan p q =
    pointwise nat_eq p.blocks q.blocks && (pointwise nat_eq p.order q.order && pointwise nat_eq p.torn q.torn)

unfoldable pub is_held : Session → Bool
is_held s =
    is_good s.sheet.units s.sheet.streams
    && (leb (length s.sheet.units) 64
    && (leb (length s.sheet.streams) 256
    && (not (too_large s.sheet.units s.sheet.streams) && same_plan s.plan (plan_for s.sheet))))
