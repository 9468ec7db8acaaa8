-- The loop stands with the set of the places still to be ordered: what is read so far, followed by the best order of that set, is the best order
-- of all.
use Rattle.std.proofs.Common.{◌≡◌, ◌+◌, ◌^◌, ◌<◌, length}
use Rattle.sets.specs.Sets.{members}
use Rattle.tearing.specs.Table.{between}
use Rattle.tearing.proofs.Filled.{Goes}
use Rattle.tearing.proofs.Flows.read_off.Given as goal

abbrev pub invariant-loop : goal.invariant-loop
invariant-loop l =
    (l.left < 2 ^ l.self.places)
    × (length l.order ≡ l.counter)
    × (length (members l.self.places l.left) + l.counter ≡ l.self.places)
    × Goes (between l.self.low.now l.self.high.now) l.self.places l.left l.order
