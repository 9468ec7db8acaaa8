-- The table of reach is exact. What a round sets is a path over the links, since it joins two; and after round k whoever reaches k
-- reaches what k reaches, which later rounds keep, so after all rounds a link and then a path is a path. Assumes nothing.
use mathlib.Core.Path.{◌≡◌, refl, sym, ap, ◌∙◌}
use mathlib.Core.Logic.{◌⊎◌, inl, inr, ⊎_elim, ◌↔◌}
use mathlib.Core.List.{List, [], ◌∷◌, map}
use Prim.Native.Nat.{ℕ, zero, suc, ◌<◌, ◌≤◌}
use native.Mathlib.Omega.{arith}
use native.Mathlib.Decide.{dec_lt}
use lib.ListN.{length, get_or, get_or-eq_default}
use Rattle.blocks.specs.Links.{Link, Path, link, onward}
use Rattle.sets.specs.Sets.{bit}
use Rattle.blocks.specs.Reach.{joined, round_of, rounds_of, reach_of}
use Rattle.blocks.proofs.Below.{each}
use Rattle.blocks.proofs.Bits.{bit_cases, bit_zero, joined_keeps, joined_adds, joined_either}
use Rattle.sets.proofs.Sets.{bit_lt}
use Rattle.blocks.proofs.Paths.{path_trans}

get_d_map : (f : ℕ → ℕ) → f 0 ≡ 0 → (l : List ℕ) (i : ℕ) → get_or (map f l) i 0 ≡ f (get_or l i 0)
get_d_map f e [] i = sym e
get_d_map f e (x ∷ l) zero = refl
get_d_map f e (x ∷ l) (suc i) = get_d_map f e l i

length-map : (f : ℕ → ℕ) (l : List ℕ) → length (map f l) ≡ length l
length-map f [] = refl
length-map f (x ∷ l) = ap suc (length-map f l)

pub row_round : (k : ℕ) (t : List ℕ) (i : ℕ) → get_or (round_of k t) i 0 ≡ joined (bit k (get_or t i 0)) (get_or t i 0) (get_or t k 0)
unfolding round_of
row_round k t i =
    get_d_map (λ (row : ℕ). joined (bit k row) row (get_or t k 0)) (ap (λ (b : ℕ). joined b 0 (get_or t k 0)) (bit_zero k)) t i

pub length_round : (k : ℕ) (t : List ℕ) → length (round_of k t) ≡ length t
unfolding round_of
length_round k t = length-map (λ (row : ℕ). joined (bit k row) row (get_or t k 0)) t

-- ---- what a round does to the links

round_keeps : (k : ℕ) (t : List ℕ) (i j : ℕ) → Link t i j → Link (round_of k t) i j
round_keeps k t i j h =
    ap (bit j) (row_round k t i) ∙ joined_keeps (bit k (get_or t i 0)) (get_or t i 0) (get_or t k 0) j h

round_joins : (k : ℕ) (t : List ℕ) (i j : ℕ) → Link t i k → Link t k j → Link (round_of k t) i j
round_joins k t i j h g =
    ap (bit j) (row_round k t i) ∙ joined_adds (bit k (get_or t i 0)) (get_or t i 0) (get_or t k 0) j h g

round_either : (k : ℕ) (t : List ℕ) (i j : ℕ) → Link (round_of k t) i j → Link t i j ⊎ (Link t i k × Link t k j)
round_either k t i j h =
    joined_either (bit k (get_or t i 0)) (get_or t i 0) (get_or t k 0) j (bit_lt k (get_or t i 0)) (sym (ap (bit j) (row_round k t i)) ∙ h)

-- ---- every bit is a path

rounds_path : (k : ℕ) (t : List ℕ) (i j : ℕ) → Link (rounds_of k t) i j → Path (Link t) i j
unfolding rounds_of
rounds_path zero t i j h = link h
rounds_path (suc k) t i j h =
    ⊎_elim (rounds_path k t i j) (λ s. path_trans (rounds_path k t i k s.0) (rounds_path k t k j s.1))
    (round_either k (rounds_of k t) i j h)

-- ---- every path is a bit

rounds_keep : (k : ℕ) (t : List ℕ) (i j : ℕ) → Link t i j → Link (rounds_of k t) i j
unfolding rounds_of
rounds_keep zero t i j h = h
rounds_keep (suc k) t i j h = round_keeps k (rounds_of k t) i j (rounds_keep k t i j h)

-- whoever reaches m reaches what m reaches
abbrev Closed : List ℕ → ℕ → Type 0
Closed t m = (i j : ℕ) → Link t i m → Link t m j → Link t i j

closed_round : (k : ℕ) (t : List ℕ) → Closed (round_of k t) k
closed_round k t i j h g = round_joins k t i j (into (round_either k t i k h)) (from (round_either k t k j g))
  where
    into : Link t i k ⊎ (Link t i k × Link t k k) → Link t i k
    into (inl x) = x
    into (inr s) = s.0

    from : Link t k j ⊎ (Link t k k × Link t k j) → Link t k j
    from (inl x) = x
    from (inr s) = s.1

closed_still : (k : ℕ) (t : List ℕ) (m : ℕ) → Closed t m → Closed (round_of k t) m
closed_still k t m c i j h g = go (round_either k t i m h) (round_either k t m j g)
  where
    go : Link t i m ⊎ (Link t i k × Link t k m) → Link t m j ⊎ (Link t m k × Link t k j) → Link (round_of k t) i j
    go (inl x) (inl y) = round_keeps k t i j (c i j x y)
    go (inl x) (inr s) = round_joins k t i j (c i k x s.0) s.1
    go (inr r) (inl y) = round_joins k t i j r.0 (c k j r.1 y)
    go (inr r) (inr s) = round_joins k t i j r.0 s.1

rounds_closed : (k : ℕ) (t : List ℕ) (m : ℕ) → m < k → Closed (rounds_of k t) m
unfolding rounds_of
rounds_closed zero t m h = absurd (omega arith)
rounds_closed (suc k) t m h =
    each (Closed (round_of k (rounds_of k t))) k (λ x l. closed_still k (rounds_of k t) x (rounds_closed k t x l))
    (closed_round k (rounds_of k t)) m h

-- a place that a link leaves is one of the table's rows
pub link_source : (t : List ℕ) (i j : ℕ) → Link t i j → i < length t
link_source t i j h =
    elim (dec_lt i (length t)) [
      | yes l ↦ l
      | no f ↦
          absurd
          (omega
          (arith, ap (bit j) (get_or-eq_default t 0 {n = i} (omega arith)), bit_zero j))
    ]

path_source : (t : List ℕ) {i j : ℕ} → Path (Link t) i j → i < length t
path_source t (link {i = i} {j = j} h) = link_source t i j h
path_source t (onward {i = i} {j = j} h p) = link_source t i j h

path_rounds : (k : ℕ) (t : List ℕ) → length t ≤ k → {i j : ℕ} → Path (Link t) i j → Link (rounds_of k t) i j
path_rounds k t s (link {i = i} {j = j} h) = rounds_keep k t i j h
path_rounds k t s (onward {i = i} {j = m} {k = j} h p) =
    rounds_closed k t m (omega (arith, path_source t p)) i j (rounds_keep k t i m h) (path_rounds k t s p)

-- ---- the table of reach

-- Bit j of row i of the table of reach is set exactly when a path of one or more links leads from i to j.
pub reach_exact : (t : List ℕ) → length t ≡ 64 → (i j : ℕ) → Link (reach_of t) i j ↔ Path (Link t) i j
unfolding reach_of
reach_exact t e i j = (rounds_path 64 t i j, path_rounds 64 t (omega arith))

-- so whether one place reaches another is decided
pub path? : (t : List ℕ) → length t ≡ 64 → (i j : ℕ) → Dec (Path (Link t) i j)
path? t e i j =
    ⊎_elim
    (λ (z : bit j (get_or (reach_of t) i 0) ≡ 0). no (λ p. omega (arith, (reach_exact t e i j).1 p)))
    (λ o. yes ((reach_exact t e i j).0 o))
    (bit_cases j (get_or (reach_of t) i 0))
