-- Links between places, the paths that they make, and blocks: rule 1, over any relation `L` of direct links. A place is a
-- number; outside has none. A table of links has a row for each place, and bit j of row i is 1 where a link runs from i to j.
use Rattle.std.specs.Prelude.{◌≡◌, ◌⊎◌, List, ℕ, ◌^◌, get_or, set}
use Rattle.std.specs.Int.Bits.{bit_or}
use Rattle.sets.specs.Sets.{bit}

-- The table t has a link from i to j.
abbrev pub Link : List ℕ → ℕ → ℕ → Type 0
Link t i j = bit j (get_or t i 0) ≡ 1

-- The table t with the link from i to j more.
abbrev pub linked : List ℕ → ℕ → ℕ → List ℕ
linked t i j = set t i (bit_or (get_or t i 0) (2 ^ j))

-- "One unit reaches another if a path of one or more streams leads from it there, through units only."
pub data Path (L : ℕ → ℕ → Type 0) : ℕ → ℕ → Type 0 where
  link : {i j : ℕ} → L i j → Path L i j
  onward : {i j k : ℕ} → L i j → Path L j k → Path L i k

-- "Two units share a block when they are the same unit or each reaches the other."
abbrev pub SameBlock : (ℕ → ℕ → Type 0) → ℕ → ℕ → Type 0
SameBlock L i j = (i ≡ j) ⊎ (Path L i j × Path L j i)
