-- The block of a place, computed from a table t of reach: rule 1. "Two units share a block when they are the same unit or each
-- reaches the other."
use mathlib.Core.List.{List, [], ◌∷◌, Memᴰ}
use Rattle.std.specs.Prelude.{ℕ, zero, suc, ◌+◌, ◌^◌, ◌<◌, length, get_or}
use Rattle.std.specs.Int.Bits.{bit_or, bit_and}
use Rattle.sets.specs.Sets.{bit, members}
use Rattle.blocks.specs.Reach.{joined}

-- The set of the places below k that reach i.
unfoldable pub column_of : List ℕ → ℕ → ℕ → ℕ
column_of t zero i = 0
column_of t (suc k) i = joined (bit i (get_or t k 0)) (column_of t k i) (2 ^ k)

-- The set of i and of what both is reached by it and reaches it.
abbrev pub block_in : ℕ → ℕ → ℕ → ℕ
block_in row column i = bit_or (bit_and row column) (2 ^ i)

-- The set of the places below n of i's block.
abbrev pub block_of : List ℕ → ℕ → ℕ → ℕ
block_of t n i = block_in (get_or t i 0) (column_of t n i) i

-- The places below n of i's block, rising.
unfoldable pub members_of : List ℕ → ℕ → ℕ → List ℕ
members_of t n i = members n (block_of t n i)

-- How many places the blocks of the places listed in o have together.
abbrev pub counts_of : List ℕ → ℕ → List ℕ → ℕ
counts_of t n [] = 0
counts_of t n (i ∷ o) = length (members_of t n i) + counts_of t n o

-- A list of places that rises.
pub data Rising : List ℕ → Type 0 where
  none : Rising []
  first : {k : ℕ} {l : List ℕ} → ((j : ℕ) → Memᴰ j l → k < j) → Rising l → Rising (k ∷ l)
