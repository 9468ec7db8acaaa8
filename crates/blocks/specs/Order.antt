-- The order of the blocks, computed from a table t of reach: rule 4. "Among blocks not yet placed whose incoming streams from
-- other blocks all come from placed blocks, take the one holding the lowest unit number. Repeat." A block stands in the order
-- by its lowest place.
use Rattle.std.specs.Prelude.{◌≡◌, ◌<◌, Bool, true, false, ◌&&◌, List, [], ◌∷◌, ℕ, zero, suc, eqb, ltb, get_or, Option, MatchOption}
use Rattle.std.specs.Int.Bits.{bit_or}
use Rattle.sets.specs.Sets.{bit}
use Rattle.blocks.specs.Blocks.{column_of, block_of}

abbrev pub pick {ℓ} : {A : Type ℓ} → Bool → A → A → A
pick true a b = a
pick false a b = b

-- The set m lies in the set m'.
abbrev pub within : ℕ → ℕ → Bool
within m m' = eqb (bit_or m m') m'

-- i isn't placed, and whoever reaches it is placed or is reached by it.
abbrev pub free_in : ℕ → ℕ → ℕ → ℕ → Bool
free_in row column placed i = eqb (bit i placed) 0 && within column (bit_or row placed)

abbrev pub free : List ℕ → ℕ → ℕ → ℕ → Bool
free t n placed i = free_in (get_or t i 0) (column_of t n i) placed i

-- The same, from the sets of the places that reach each place.
abbrev pub free_at : List ℕ → List ℕ → ℕ → ℕ → Bool
free_at t columns placed i = free_in (get_or t i 0) (get_or columns i 0) placed i

-- The first place below n that passes a test, or nothing where none does.
abbrev pub First : (ℕ → Bool) → ℕ → Option ℕ → Type 0
First test n o =
    MatchOption o ((j : ℕ) → j < n → test j ≡ false)
    (λ i. (i < n) × (test i ≡ true) × ((j : ℕ) → j < i → test j ≡ false))

-- The lowest free place below k, or n where there is none.
unfoldable pub lowest_free : List ℕ → ℕ → ℕ → ℕ → ℕ
lowest_free t n placed zero = n
lowest_free t n placed (suc k) =
    pick (eqb (lowest_free t n placed k) n) (pick (free t n placed k) k n) (lowest_free t n placed k)

-- The order of what isn't placed: at most f blocks, as long as one is free.
unfoldable pub order_from : List ℕ → ℕ → ℕ → ℕ → List ℕ
order_from t n zero placed = []
order_from t n (suc f) placed =
    pick (ltb (lowest_free t n placed n) n)
    (lowest_free t n placed n ∷ order_from t n f (bit_or placed (block_of t n (lowest_free t n placed n))))
    []

-- The order of the blocks of the places below n.
unfoldable pub order_of : List ℕ → ℕ → List ℕ
order_of t n = order_from t n n 0
