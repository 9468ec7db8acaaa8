-- The members of a block are exactly the places that share it, rising. Assumes nothing.
use mathlib.Core.Path.{◌≡◌, refl}
use mathlib.Core.Logic.{◌⊎◌, inl, inr, ◌↔◌}
use mathlib.Core.List.{List, Memᴰ}
use Prim.Native.Nat.{ℕ, ◌<◌, ◌≤◌}
use lib.ListN.{length}
use Rattle.blocks.specs.Links.{Link, SameBlock}
use Rattle.sets.specs.Sets.{bit, members}
use Rattle.blocks.specs.Reach.{reach_of}
use Rattle.blocks.specs.Blocks.{block_of, members_of, Rising}
use Rattle.blocks.proofs.Rounds.{reach_exact}
use Rattle.blocks.proofs.Places.{block_bit, places_has, places_only, places_rising, places_most, rising_unique}

-- place j is in the set of i's block exactly when the two share a block
pub block_exact : (t : List ℕ) → length t ≡ 64 → (n i j : ℕ) → j < n → (bit j (block_of (reach_of t) n i) ≡ 1) ↔ SameBlock (Link t) i j
block_exact t e n i j h = (λ b. there ((block_bit (reach_of t) n i j h).0 b), λ s. (block_bit (reach_of t) n i j h).1 (back s))
  where
    there : (i ≡ j) ⊎ (Link (reach_of t) i j × Link (reach_of t) j i) → SameBlock (Link t) i j
    there (inl q) = inl q
    there (inr s) = inr ((reach_exact t e i j).0 s.0, (reach_exact t e j i).0 s.1)

    back : SameBlock (Link t) i j → (i ≡ j) ⊎ (Link (reach_of t) i j × Link (reach_of t) j i)
    back (inl q) = inl q
    back (inr s) = inr ((reach_exact t e i j).1 s.0, (reach_exact t e j i).1 s.1)

-- A place is a member exactly when it is below n and shares the block.
pub members_exact : (t : List ℕ) → length t ≡ 64 → (n i j : ℕ) → Memᴰ j (members_of (reach_of t) n i) ↔ ((j < n) × SameBlock (Link t) i j)
unfolding members_of
members_exact t e n i j = (there, λ s. places_has n (block_of (reach_of t) n i) j s.0 ((block_exact t e n i j s.0).1 s.1))
  where
    there : Memᴰ j (members n (block_of (reach_of t) n i)) → (j < n) × SameBlock (Link t) i j
    there p = let s = places_only n (block_of (reach_of t) n i) j p in (s.0, (block_exact t e n i j s.0).0 s.1)

pub members_rising : (t : List ℕ) (n i : ℕ) → Rising (members_of t n i)
unfolding members_of
members_rising t n i = places_rising n (block_of t n i)

pub members_most : (t : List ℕ) (n i : ℕ) → length (members_of t n i) ≤ n
unfolding members_of
members_most t n i = places_most n (block_of t n i)

-- from any table, the members are below n, and i is one
pub members_below : (t : List ℕ) (n i j : ℕ) → Memᴰ j (members_of t n i) → j < n
unfolding members_of
members_below t n i j p = (places_only n (block_of t n i) j p).0

pub members_self : (t : List ℕ) (n i : ℕ) → i < n → Memᴰ i (members_of t n i)
unfolding members_of
members_self t n i h = places_has n (block_of t n i) i h ((block_bit t n i i h).1 (inl refl))

-- No other list that rises has these members, so their count is its length.
pub members_unique : (t : List ℕ) → length t ≡ 64 → (n i : ℕ) (l : List ℕ) → Rising l
    → ((j : ℕ) → Memᴰ j l ↔ ((j < n) × SameBlock (Link t) i j)) → members_of (reach_of t) n i ≡ l
members_unique t e n i l r f =
    rising_unique (members_rising (reach_of t) n i) r (λ j p. (f j).1 ((members_exact t e n i j).0 p)) (λ j p. (members_exact t e n i j).1 ((f j).0 p))

-- Blocks with the same places have the same members, whatever the links.
pub members_same : (t u : List ℕ) → length t ≡ 64 → length u ≡ 64 → (n i k : ℕ)
    → ((j : ℕ) → j < n → SameBlock (Link t) i j ↔ SameBlock (Link u) k j) → members_of (reach_of t) n i ≡ members_of (reach_of u) n k
members_same t u e d n i k f =
    members_unique t e n i (members_of (reach_of u) n k) (members_rising (reach_of u) n k)
    (λ j. (λ p. there j ((members_exact u d n k j).0 p), λ s. (members_exact u d n k j).1 (s.0, (f j s.0).0 s.1)))
  where
    there : (j : ℕ) → (j < n) × SameBlock (Link u) k j → (j < n) × SameBlock (Link t) i j
    there j s = (s.0, (f j s.0).1 s.1)
