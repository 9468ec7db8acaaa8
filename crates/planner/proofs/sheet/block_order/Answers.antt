-- The members of a block lie among the places.
use Rattle.std.proofs.Common.{List, ℕ, get_or, arith}
use Rattle.blocks.specs.Blocks.{members_of}
use Rattle.blocks.proofs.Blocks.{members_below}
use Rattle.planner.proofs.Members.{mem_at}
use Rattle.planner.proofs.sheet.block_order.Goals as goal

pub units_in-block-requires : goal.units_in-block-requires
units_in-block-requires c =
    let r = c.args.reach.now in
    let m : List ℕ = members_of r.rows r.places c.args.place in
    let places = rw (← c.sheet.view_is) at c.requires.places.0 in
    rw (c.items-2.ensures.items, c.members-members.ensures, c.items.ensures.items, ← places)
    (omega (arith, c.requires.small), λ k h. members_below r.rows r.places c.args.place (get_or m k 0) (mem_at m k 0 h))
