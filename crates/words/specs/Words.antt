-- Little-endian numbers in a row of bytes, over the width, rows of them, and the front of a row cleared.
-- A number, its bytes, a row with a number written and one with its front cleared are shut: callers go by the laws of proofs/Numbers.antt and
-- proofs/Cleared.antt.
use Rattle.std.specs.Prelude.{List, [], ◌∷◌, ◌++◌, ℕ, zero, suc, ◌+◌, ◌*◌, ◌/◌, ◌%◌, get_or, drop, replicate}
use Rattle.std.proofs.lemmas.List.Edits.{sets}

-- the number in the k bytes from i on, the low byte first ("Numbers are 16 bits, little-endian")
unfoldable pub number_at : ℕ → List ℕ → ℕ → ℕ
number_at zero l i = 0
number_at (suc k) l i = get_or l i 0 + 256 * number_at k l (i + 1)

-- the k bytes of a number, the low byte first
unfoldable pub bytes_of : ℕ → ℕ → List ℕ
bytes_of zero v = []
bytes_of (suc k) v = v % 256 ∷ bytes_of k (v / 256)

-- the row l with the number v in the k bytes from i on
unfoldable pub with_number : ℕ → List ℕ → ℕ → ℕ → List ℕ
with_number k l i v = sets l i (bytes_of k v)

-- the bytes of all the records, one after the other
abbrev pub flat : {A : Type 0} → (A → List ℕ) → List A → List ℕ
flat f [] = []
flat f (x ∷ xs) = f x ++ flat f xs

-- the row l with numbers of 16 bits stored one after the other from the byte i on
abbrev pub with_numbers : List ℕ → ℕ → List ℕ → List ℕ
with_numbers l i xs = sets l i (flat (bytes_of 2) xs)

-- the row l with its first n bytes zero
unfoldable pub cleared : List ℕ → ℕ → List ℕ
cleared l n = replicate n 0 ++ drop n l
