-- The weights between twelve places, by the rules of the cases.
use Rattle.std.specs.Prelude.{cond, ℕ, ◌+◌, ◌*◌, ◌%◌, eqb}
use Rattle.cases.specs.declared.orders.Rule.{Rule}
use Rattle.cases.specs.declared.orders.Rule.TheVariants.{Dense, Equal}

-- what the streams from place i to place j weigh
abbrev pub weight_of : Rule → ℕ → ℕ → ℕ
weight_of Dense i j = 1 + (37 * i + 61 * j + 213 * i * j) % 1000
weight_of Equal i j = cond (eqb i j) 0 7
