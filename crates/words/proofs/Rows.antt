-- Records and numbers of 16 bits, stored one after the other. Assumes nothing.
use mathlib.Core.List.{List, [], ◌∷◌, ◌++◌, append_assoc, append-nil}
use mathlib.Core.Path.{◌≡◌, refl, sym}
use Prim.Native.Nat.{ℕ, ◌+◌, ◌*◌, ◌<◌}
use native.Mathlib.Nat.{mul-zero, mul-suc}
use native.Mathlib.Numerals.{add-one}
use native.Mathlib.Omega.{arith}
use lib.ListN.{length, get_or, take, length-append}
use lib.Seq.{take-suc, length-take-le}
use Rattle.words.specs.Words.{bytes_of, flat, with_number, with_numbers}
use Rattle.words.proofs.Numbers.{length_bytes, sets-append}

pub flat_append : {A : Type 0} (f : A → List ℕ) (xs ys : List A) → flat f (xs ++ ys) ≡ flat f xs ++ flat f ys
flat_append f [] ys = refl
flat_append f (x ∷ xs) ys = rw (flat_append f xs ys) (sym (append_assoc (f x) (flat f xs) (flat f ys)))

-- records of w bytes each, one after the other
pub length-records : {A : Type 0} (f : A → List ℕ) (w : ℕ) → ((x : A) → length (f x) ≡ w) → (xs : List A) → length (flat f xs) ≡ w * length xs
length-records f w wide [] = sym (mul-zero w)
length-records f w wide (x ∷ xs) =
    rw (length-append, wide x, length-records f w wide xs, mul-suc w (length xs)) (omega arith)

pub length-flat : (k : ℕ) (xs : List ℕ) → length (flat (bytes_of k) xs) ≡ k * length xs
length-flat k xs = length-records (bytes_of k) k (length_bytes k) xs

-- two rows of numbers
pub sets_rows : (l : List ℕ) (at : ℕ) (xs ys : List ℕ) → with_numbers (with_numbers l at xs) (at + 2 * length xs) ys ≡ with_numbers l at (xs ++ ys)
sets_rows l at xs ys =
    rw (← length-flat 2 xs, flat_append (bytes_of 2) xs ys) (sets-append l at (flat (bytes_of 2) xs) (flat (bytes_of 2) ys))

-- a row's first i numbers, and one more
pub one_more : (l m : List ℕ) (at : ℕ) (row : List ℕ) (i : ℕ) → i < length row → m ≡ with_numbers l at (take i row)
    → with_number 2 m (at + 2 * i) (get_or row i 0) ≡ with_numbers l at (take (i + 1) row)
unfolding with_number
one_more l m at row i h is =
    let n : length (take i row) ≡ i = length-take-le i row (omega arith) in
    let t : take (i + 1) row ≡ take i row ++ (get_or row i 0 ∷ []) = rw (add-one i) (take-suc row i 0 h) in
    let e = sets_rows l at (take i row) (get_or row i 0 ∷ []) in
    rw (is, t) (rw (n, append-nil (bytes_of 2 (get_or row i 0))) at e)
