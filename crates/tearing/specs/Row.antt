-- The weights as they are handed over: a row of twelve by twelve numbers. What stands at `12 * i + j` is the weight of the streams from
-- place i to place j together, so on the diagonal a unit's streams to itself.
use Rattle.std.specs.Prelude.{List, [], ◌∷◌, ℕ, ◌+◌, ◌*◌, get_or}

abbrev pub weights : List ℕ → ℕ → ℕ → ℕ
weights w i j = get_or w (i * 12 + j) 0

-- all the numbers of a row together
unfoldable pub total : List ℕ → ℕ
total [] = 0
total (x ∷ w) = x + total w
