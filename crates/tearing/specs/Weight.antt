-- What an order tears, as a recursion on the order: each place pays for the streams into it from itself and from those that stand after it.
-- `Best` and `Least` say of a whole set of places what the table holds and what is read off it.
use Rattle.std.specs.Prelude.{◌≡◌, ◌⊎◌, List, [], ◌∷◌, ℕ, ◌+◌, ◌<◌, ◌≤◌}
use Rattle.tearing.specs.Order.{Perm, Lex, sum_over}

-- the weight of the streams into u from R
abbrev pub into : (ℕ → ℕ → ℕ) → ℕ → List ℕ → ℕ
into W u R = sum_over (λ w. W w u) R

-- what an order tears
abbrev pub weight : (ℕ → ℕ → ℕ) → List ℕ → ℕ
weight W [] = 0
weight W (u ∷ R) = into W u (u ∷ R) + weight W R

-- o tears less than p, or as much and comes no later
abbrev pub Before : (ℕ → ℕ → ℕ) → List ℕ → List ℕ → Type 0
Before W o p = (weight W o < weight W p) ⊎ ((weight W o ≡ weight W p) × Lex o p)

-- o is the order of S that tears least, and of those the first
pub record Best (W : ℕ → ℕ → ℕ) (S o : List ℕ) : Type 0 where
  pub perm : Perm S o
  pub first : (p : List ℕ) → Perm S p → Before W o p

-- x is the least that an order of S tears
pub record Least (W : ℕ → ℕ → ℕ) (S : List ℕ) (x : ℕ) : Type 0 where
  pub order : List ℕ
  pub perm : Perm S order
  pub is : weight W order ≡ x
  pub below : (p : List ℕ) → Perm S p → x ≤ weight W p

-- the weight of all streams from R into S
abbrev pub all : (ℕ → ℕ → ℕ) → List ℕ → List ℕ → ℕ
all W S R = sum_over (λ u. into W u R) S
