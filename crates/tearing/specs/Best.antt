-- The block's order, computed: "one whose torn streams have the least total weight over all orders of that block. Where several have, it is the
-- first of them". Each place is tried as the first, followed by the best order of the others, and the first of the lightest is kept.
use Rattle.std.specs.Prelude.{Bool, true, false, List, [], ◌∷◌, ◌++◌, ℕ, zero, suc, ◌+◌, leb}
use Rattle.tearing.specs.Order.{upto}
use Rattle.tearing.specs.Weight.{into}

-- an order, with what it tears
pub record Found : Type 0 where
  pub weight : ℕ
  pub order : List ℕ

abbrev pub pick : Bool → Found → Found → Found
pick true a b = a
pick false a b = b

-- the first of two, unless the second tears less
abbrev pub lighter : Found → Found → Found
lighter a b = pick (leb a.weight b.weight) a b

-- u, and then what was found for the rest of S
abbrev pub begun : (ℕ → ℕ → ℕ) → List ℕ → ℕ → Found → Found
begun W S u rest = record { weight = into W u S + rest.weight; order = u ∷ rest.order }

-- the lightest that begins with u or with one of back, where S is front, u and back
abbrev pub lightest_from : (ℕ → ℕ → ℕ) → List ℕ → (List ℕ → Found) → List ℕ → ℕ → List ℕ → Found
lightest_from W S g front u [] = begun W S u (g (front ++ []))
lightest_from W S g front u (v ∷ back) = lighter (begun W S u (g (front ++ v ∷ back))) (lightest_from W S g (front ++ (u ∷ [])) v back)

-- the best order of S, which has at most as many members as the first number says
abbrev pub best_of : (ℕ → ℕ → ℕ) → ℕ → List ℕ → Found
best_of W zero S = record { weight = 0; order = [] }
best_of W (suc k) [] = record { weight = 0; order = [] }
best_of W (suc k) (u ∷ S) = lightest_from W (u ∷ S) (best_of W k) [] u S

-- the best order of the places below n
unfoldable pub best : (ℕ → ℕ → ℕ) → ℕ → List ℕ
best W n = (best_of W n (upto n)).order
