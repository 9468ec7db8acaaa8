-- The blocks passed are small, so the answer for all is that for the rest.
use Rattle.std.proofs.Common.{◌≡◌, ℕ, List, map, drop}
use Rattle.blocks.specs.Blocks.{members_of}
use Rattle.planner.specs.Plan.{any_over}
use Rattle.planner.proofs.sheet.any_large.Given as goal

abbrev pub invariant-loop-place : goal.invariant-loop-place
invariant-loop-place l =
    let f : ℕ → List ℕ = members_of l.reach.rows l.reach.places in
    any_over (map f l.order) ≡ any_over (map f (drop l.place-index l.order))
