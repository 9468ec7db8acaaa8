-- The loop stands at u: of the members below u the lightest is known and the first that is so.
use Rattle.std.proofs.Common.{◌^◌}
use Rattle.tearing.specs.Table.{via}
use Rattle.tearing.proofs.Lowest.{Min}
use Rattle.tearing.proofs.Flows.lightest.Given as goal

abbrev pub invariant-loop-u : goal.invariant-loop-u
invariant-loop-u l = Min (via l.self.low.now l.self.high.now l.work l.set) l.set (2 ^ 32) l.u l.lightest l.begin
