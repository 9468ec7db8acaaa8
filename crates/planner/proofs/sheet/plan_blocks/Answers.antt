-- The next place is one of the sheet's, there is room for its block's record, and after the last block the plan is whole.
use Rattle.planner.proofs.Sorting.{place_below, records_fit, all_done}
use Rattle.planner.proofs.sheet.plan_blocks.Goals as goal

pub block_order-block-requires-clause-places : goal.block_order-block-requires-clause-places
block_order-block-requires-clause-places c =
    let a = c.args in
    let s = c.requires in
    (s.places, place_below a.sheet.now a.reach.now a.order.now s c.loop-place.place-index c.loop-place-test.true c.from.result c.from.ensures)

pub add_block-requires-clause-blocks : goal.add_block-requires-clause-blocks
add_block-requires-clause-blocks c =
    let a = c.args in
    records_fit a.sheet.now a.reach.now a.order.now c.requires c.loop-place.place-index c.loop-place-test.true c.from.result c.from.ensures c.loop-place.plan c.loop-place.invariant

pub returns : goal.returns
returns c =
    let a = c.args in
    all_done a.sheet.now a.reach.now a.order.now c.requires c.loop-place.place-index c.loop-place-test.false c.loop-place.plan c.loop-place.invariant
