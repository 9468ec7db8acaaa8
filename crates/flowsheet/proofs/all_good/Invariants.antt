-- The records before this one are good: the test of all is that of the rest.
use Rattle.std.proofs.Common.{◌≡◌, drop}
use Rattle.flowsheet.specs.Good.{rows_good}
use Rattle.flowsheet.proofs.all_good.Given as goal

abbrev pub invariant-loop-record : goal.invariant-loop-record
invariant-loop-record g l =
    let good = rows_good g.R.Record.number (g.R.Record.fault l.units) in good 0 l.records ≡ good l.last (drop l.record-index l.records)
