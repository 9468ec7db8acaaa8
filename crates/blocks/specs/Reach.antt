-- The table of reach, computed: rule 1. "One unit reaches another if a path of one or more streams leads from it there."
use Rattle.std.specs.Prelude.{List, map, ℕ, zero, suc, get_or}
use Rattle.std.specs.Int.Bits.{bit_or}
use Rattle.sets.specs.Sets.{bit}

-- The set m, with those of the set `more` where the first number isn't 0.
abbrev pub joined : ℕ → ℕ → ℕ → ℕ
joined zero m more = m
joined (suc b) m more = bit_or m more

-- Round k: whoever reaches k reaches what k reaches.
unfoldable pub round_of : ℕ → List ℕ → List ℕ
round_of k t = map (λ (row : ℕ). joined (bit k row) row (get_or t k 0)) t

-- Rounds 0 to k - 1: the paths that lead through places below k.
unfoldable pub rounds_of : ℕ → List ℕ → List ℕ
rounds_of zero t = t
rounds_of (suc k) t = round_of k (rounds_of k t)

-- Who reaches whom over the links of t, among 64 places.
unfoldable pub reach_of : List ℕ → List ℕ
reach_of t = rounds_of 64 t
