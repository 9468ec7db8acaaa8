-- What a clause sees of a plan: its three tables.
use Rattle.std.specs.Prelude.{List, ℕ}

pub record PlanTables : Type 0 where
  pub blocks : List ℕ
  pub order : List ℕ
  pub torn : List ℕ
