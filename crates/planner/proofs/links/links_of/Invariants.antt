-- The links of the streams that are left make the table what it is to be.
use Rattle.std.proofs.Common.{◌≡◌, drop}
use Rattle.planner.specs.Links.{with_links, links_of}
use Rattle.planner.proofs.links.links_of.Given as goal

abbrev pub invariant-loop-stream : goal.invariant-loop-stream
invariant-loop-stream l = with_links l.units l.table (drop l.stream-index l.stream-items) ≡ links_of l.sheet.units l.sheet.streams
