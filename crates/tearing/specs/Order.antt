-- Orders of a block's units, what they tear, and which of them is the block's: rules 2 and 3. A unit is its place in the block, from 0,
-- and `W i j` is the weight of the streams from place i to place j, whatever weights these are.
use Rattle.std.specs.Prelude.{◌≡◌, Bool, true, false, List, [], ◌∷◌, ◌++◌, ℕ, zero, suc, ◌+◌, ◌<◌, ◌≤◌, eqb, ltb}

-- u taken out of S leaves R
pub data Pick : ℕ → List ℕ → List ℕ → Type 0 where
  here : {u : ℕ} {S : List ℕ} → Pick u (u ∷ S) S
  there : {u x : ℕ} {S R : List ℕ} → Pick u S R → Pick u (x ∷ S) (x ∷ R)

-- "an order of a block's units": each member of S once
pub data Perm : List ℕ → List ℕ → Type 0 where
  none : Perm [] []
  next : {u : ℕ} {S R o : List ℕ} → Pick u S R → Perm R o → Perm S (u ∷ o)

-- 0, 1, .., n - 1
abbrev pub upto : ℕ → List ℕ
upto zero = []
upto (suc k) = upto k ++ (k ∷ [])

-- a where the test holds, else b
abbrev pub choose : Bool → ℕ → ℕ → ℕ
choose true a b = a
choose false a b = b

-- how many stand before u in an order
abbrev pub place_of : ℕ → List ℕ → ℕ
place_of u [] = 0
place_of u (x ∷ o) = choose (eqb u x) 0 (suc (place_of u o))

-- i stands before j in an order
abbrev pub stands_before : ℕ → ℕ → List ℕ → Bool
stands_before i j o = ltb (place_of i o) (place_of j o)

-- the sum of f over the members of S
abbrev pub sum_over : (ℕ → ℕ) → List ℕ → ℕ
sum_over f [] = 0
sum_over f (x ∷ S) = f x + sum_over f S

-- "the torn streams are the streams with both ends in the block whose source doesn't stand before their receiver. A stream from a unit to
-- itself is always torn.": what they weigh, of the streams from i to j nothing where i stands before j, and else all
unfoldable pub torn : (ℕ → ℕ → ℕ) → List ℕ → List ℕ → ℕ
torn W S o = sum_over (λ i. sum_over (λ j. choose (stands_before i j o) 0 (W i j)) S) S

-- "compared unit by unit, lower number first": o is p, or comes before it
pub data Lex : List ℕ → List ℕ → Type 0 where
  end : Lex [] []
  less : {u v : ℕ} {o p : List ℕ} → u < v → Lex (u ∷ o) (v ∷ p)
  same : {u : ℕ} {o p : List ℕ} → Lex o p → Lex (u ∷ o) (u ∷ p)

-- "The block's order is one whose torn streams have the least total weight over all orders of that block. Where several have, it is the first
-- of them": o is that order, of the places below n
pub record Chosen (W : ℕ → ℕ → ℕ) (n : ℕ) (o : List ℕ) : Type 0 where
  pub order : Perm (upto n) o
  pub least : (p : List ℕ) → Perm (upto n) p → torn W (upto n) o ≤ torn W (upto n) p
  pub first : (p : List ℕ) → Perm (upto n) p → torn W (upto n) p ≡ torn W (upto n) o → Lex o p
