-- The loop's invariant: the row has the blocks so far, and the rest of the order is that of what isn't placed. Assumes nothing.
use Rattle.blocks.proofs.Turns.{Listing}
use Rattle.blocks.proofs.Reach.order.Given as goal

abbrev pub invariant-loop : goal.invariant-loop
invariant-loop l = Listing l.self.rows l.self.places l.order l.counter l.placed
