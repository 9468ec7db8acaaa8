-- The loop stands at a set: the entries of the sets below it hold their least.
use Rattle.std.proofs.Common.{◌≡◌, ◌*◌, ◌^◌, drop}
use Rattle.tearing.specs.Table.{between, Filled}
use Rattle.tearing.proofs.Flows.fill.Given as goal

abbrev pub invariant-loop-set : goal.invariant-loop-set
invariant-loop-set l =
    (drop (4 * 2 ^ l.self.places) l.work ≡ drop (4 * 2 ^ l.self.places) l.fn.work)
    × Filled (between l.self.low.now l.self.high.now) l.self.places l.work l.set
