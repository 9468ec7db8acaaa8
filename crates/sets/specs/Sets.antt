-- Sets of places as numbers: the binary digit j of a set says whether place j is in it.
use Rattle.std.specs.Prelude.{List, [], ◌∷◌, ◌++◌, ℕ, zero, suc, ◌/◌, ◌%◌}

-- the digit j of the number m, by halves: 1 where place j is in the set, else 0
abbrev pub bit : ℕ → ℕ → ℕ
bit zero m = m % 2
bit (suc j) m = bit j (m / 2)

-- k alone where the first number isn't 0, else nothing
abbrev pub only : ℕ → ℕ → List ℕ
only zero k = []
only (suc b) k = k ∷ []

-- the places below k of the set m, rising
unfoldable pub members : ℕ → ℕ → List ℕ
members zero m = []
members (suc k) m = members k m ++ only (bit k m) k
