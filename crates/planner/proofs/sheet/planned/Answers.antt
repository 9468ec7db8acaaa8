-- The first 65,536 bytes of a memory that has as many are lent as an array: no block is over 12, so the plan is made there. What lies
-- beyond them stays.
use Rattle.std.proofs.Common.{ap, sym, ◌∙◌, arith, length, length-take}
use Rattle.blocks.specs.Reach.{reach_of}
use Rattle.planner.proofs.Answers.{sorted, planned_made}
use Rattle.planner.proofs.Memory.{spent_front}
use Rattle.planner.proofs.sheet.planned.Goals as goal

pub unwrap-memory-requires : goal.unwrap-memory-requires
unwrap-memory-requires c = c.try_from.ensures.0 (rw length-take (omega arith))

pub plan_blocks-requires : goal.plan_blocks-requires
plan_blocks-requires c =
    let reach = c.of-reach.ensures in
    rw c.items-3.ensures.items
    (sorted c.args.sheet.now c.requires c.of-reach.result (reach.rows ∙ ap reach_of c.links_of.ensures) (rw (← c.sheet.view_is) (rw c.items.ensures.items at reach.places))
    c.order-order.result c.order-order.ensures (rw c.items-2.ensures.items at (sym c.any_large.ensures ∙ c.if-any_large.false)))

pub returns-clause-answer : goal.returns-clause-answer
returns-clause-answer c =
    let reach = c.of-reach.ensures in
    planned_made c.args.sheet.now c.requires c.of-reach.result (reach.rows ∙ ap reach_of c.links_of.ensures) (rw (← c.sheet.view_is) (rw c.items.ensures.items at reach.places))
    c.order-order.result c.order-order.ensures (length c.args.work.now) (rw c.items-2.ensures.items at (sym c.any_large.ensures ∙ c.if-any_large.false))
    (omega arith) c.plan_blocks.result c.plan_blocks.ensures

pub returns-clause-work : goal.returns-clause-work
returns-clause-work c = spent_front c.args.work.now _ (omega arith) (omega arith)
