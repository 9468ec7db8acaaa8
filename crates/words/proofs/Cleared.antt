-- The front of a row cleared, a byte at a time; what lies beyond it is all that counts of the row before. Assumes nothing.
use mathlib.Core.List.{List, ◌++◌}
use mathlib.Core.Path.{◌≡◌, refl, sym, ap, ◌∙◌}
use Prim.Native.Nat.{ℕ, ◌+◌, ◌-◌, ◌≤◌}
use native.Mathlib.Omega.{arith}
use lib.ListN.{length, take, drop, replicate, length-append, length-replicate, length-drop}
use lib.Seq.{drop-append-add, drop-drop}
use Rattle.std.proofs.Common.{length-take-le}
use Rattle.words.specs.Words.{cleared}

-- only what lies beyond the cleared part counts
pub cleared_same : (l m : List ℕ) (n : ℕ) → drop n l ≡ drop n m → cleared l n ≡ cleared m n
unfolding cleared
cleared_same l m n e = ap (λ (d : List ℕ). replicate n 0 ++ d) e

pub length-cleared : (l : List ℕ) (n : ℕ) → n ≤ length l → length (cleared l n) ≡ length l
unfolding cleared
length-cleared l n h = rw (length-append, length-replicate, length-drop) (omega arith)

pub drop-cleared : (l : List ℕ) (n k : ℕ) → n ≤ k → drop k (cleared l n) ≡ drop k l
unfolding cleared
drop-cleared l n k h =
    let e : length (replicate {A = ℕ} n 0) + (k - n) ≡ k = rw length-replicate (omega arith) in
    let f : n + (k - n) ≡ k = omega arith in
    ap (λ (j : ℕ). drop j (replicate n 0 ++ drop n l)) (sym e)
    ∙ drop-append-add (replicate n 0) (drop n l) (k - n)
    ∙ drop-drop (k - n) n l
    ∙ ap (λ (j : ℕ). drop j l) f

-- what a front filled with zeros and the rest behind it are: its length may be named in another way than the number of bytes to be cleared
pub filled_front : {front : List ℕ} (row : List ℕ) (count n : ℕ) → count ≤ length row → n ≡ count → front ≡ replicate (length (take n row)) 0 → front ++ drop n row ≡ cleared row count
unfolding cleared
filled_front row count n h e f =
    rw (f, e, length-take-le count row h) refl
