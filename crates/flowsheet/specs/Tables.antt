-- What a clause sees of a flowsheet: its two tables, the units by number and the streams in the order of theirs.
use Rattle.std.specs.Prelude.{List, ℕ}
use Rattle.flowsheet.specs.declared.Stream.{Stream}

pub record Tables : Type 0 where
  pub units : List ℕ
  pub streams : List Stream
