-- Rows of a fixed length: a list with one value in every place beyond it, and the list of what a function gives at each place.
use Rattle.std.specs.Prelude.{List, [], ◌∷◌, ◌++◌, ℕ, zero, suc, ◌-◌, length, replicate}

-- the list xs in a row of n places, those beyond it d ("every place beyond its counts is zero")
unfoldable pub padded : {A : Type 0} → ℕ → A → List A → List A
padded n d xs = xs ++ replicate (n - length xs) d

-- what f gives at the places 0 to n - 1
unfoldable pub table : {A : Type 0} → (ℕ → A) → ℕ → List A
table f zero = []
table f (suc n) = table f n ++ (f n ∷ [])
