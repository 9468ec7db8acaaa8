-- Little-endian numbers, once for every width. A number of a + b bytes is the number of its first a bytes and, 256 ^ a
-- times, that of the others; so the wider functions follow from the narrower. Assumes nothing.
use mathlib.Core.List.{List, [], ◌∷◌, ◌++◌, append_assoc}
use mathlib.Core.Logic.{◌⊎◌, inl, inr}
use mathlib.Core.Path.{◌≡◌, refl, sym, ap, ◌∙◌}
use Prim.Native.Nat.{ℕ, zero, suc, ◌+◌, ◌*◌, ◌/◌, ◌%◌, ◌^◌, ◌≤◌, ◌<◌}
use native.Mathlib.Nat.{zero-add, suc-add, add-zero, mul_assoc, pow-suc, pow-succ', div-one, div-div-eq-div-mul, mod-eq_of_lt}
use native.Mathlib.Numerals.{add-one}
use native.Mathlib.Omega.{arith}
use lib.Arith.{mod-mul, digits_div, digits_mod}
use lib.ListN.{length, get_or, set, take, drop, length-set, length-append}
use lib.Seq.{sets, get_or-set_same, get_or-set_other, drop-set-lt, drop-cons, get_or-append_seam}
use Rattle.words.specs.Words.{number_at, bytes_of, with_number}

-- every element of the row is a byte
abbrev pub Bytes : List ℕ → Type 0
Bytes l = (i : ℕ) → get_or l i 0 < 256

pub length_bytes : (k v : ℕ) → length (bytes_of k v) ≡ k
unfolding bytes_of
length_bytes zero v = refl
length_bytes (suc k) v = ap suc (length_bytes k (v / 256))

pub number_lt : (k : ℕ) (l : List ℕ) (i : ℕ) → Bytes l → number_at k l i < 256 ^ k
unfolding number_at
number_lt zero l i h = omega arith
number_lt (suc k) l i h = omega (arith, pow-succ' 256 k, number_lt k l (i + 1) h, h i)

-- rows that agree on the bytes of a number hold the same number there
pub number_same : (k : ℕ) (l m : List ℕ) (i : ℕ) → ((j : ℕ) → i ≤ j → j < i + k → get_or l j 0 ≡ get_or m j 0) → number_at k l i ≡ number_at k m i
unfolding number_at
number_same zero l m i f = refl
number_same (suc k) l m i f =
    rw (f i (omega arith) (omega arith), number_same k l m (i + 1) (λ j p q. f j (omega arith) (omega arith)))

-- a number of a + b bytes, from its two parts
pub number_join : (a b : ℕ) (l : List ℕ) (i : ℕ) → number_at (a + b) l i ≡ number_at a l i + 256 ^ a * number_at b l (i + a)
unfolding number_at
number_join zero b l i = rw (zero-add b, add-zero i) (omega arith)
number_join (suc a) b l i =
    let e : i + suc a ≡ i + 1 + a = omega arith in
    rw (suc-add a b, number_join a b l (i + 1), pow-succ' 256 a, e, mul_assoc 256 (256 ^ a) (number_at b l (i + 1 + a))) (omega arith)

pub number_four : (l : List ℕ) (i : ℕ) → number_at 4 l i ≡ number_at 2 l i + 65536 * number_at 2 l (i + 2)
number_four = number_join 2 2

pub number_eight : (l : List ℕ) (i : ℕ) → number_at 8 l i ≡ number_at 4 l i + 4294967296 * number_at 4 l (i + 4)
number_eight = number_join 4 4

-- the bytes of a number of a + b bytes, in two parts
pub bytes_join : (a b v : ℕ) → bytes_of (a + b) v ≡ bytes_of a v ++ bytes_of b (v / 256 ^ a)
unfolding bytes_of
bytes_join zero b v = rw (zero-add b, div-one v)
bytes_join (suc a) b v =
    rw (suc-add a b, bytes_join a b (v / 256), pow-succ' 256 a, div-div-eq-div-mul v 256 (256 ^ a))

pub width_pos : (k : ℕ) → 0 < 256 ^ k
width_pos zero = omega arith
width_pos (suc k) = omega (arith, pow-succ' 256 k, width_pos k)

-- only the part of a number that its bytes can hold counts
pub bytes_low : (a v : ℕ) → bytes_of a (v % 256 ^ a) ≡ bytes_of a v
unfolding bytes_of
bytes_low zero v = refl
bytes_low (suc a) v =
    let d : v % 256 < 256 = omega arith in
    rw (pow-suc 256 a, mod-mul v {m = 256 ^ a} {c = 256} (width_pos a) (omega arith), digits_div (v / 256 % 256 ^ a) d, digits_mod (v / 256 % 256 ^ a) d, bytes_low a (v / 256))

pub sets-append : (l : List ℕ) (i : ℕ) (xs ys : List ℕ) → sets (sets l i xs) (i + length xs) ys ≡ sets l i (xs ++ ys)
sets-append l i [] ys = rw (add-zero i)
sets-append l i (x ∷ xs) ys = let e : i + suc (length xs) ≡ suc i + length xs = omega arith in rw e (sets-append (set l i x) (suc i) xs ys)

-- a number of a + b bytes, written in two parts
pub with_join : (a b : ℕ) (l : List ℕ) (i v : ℕ)
    → with_number b (with_number a l i (v % 256 ^ a)) (i + a) (v / 256 ^ a % 256 ^ b) ≡ with_number (a + b) l i v
unfolding with_number
with_join a b l i v =
    rw (bytes_low a v, bytes_low b (v / 256 ^ a), bytes_join a b v, ← sets-append l i (bytes_of a v) (bytes_of b (v / 256 ^ a)), length_bytes a v)

-- a number of two bytes, and of two halves, as they are written one after the other
pub with_two : (l : List ℕ) (i v : ℕ) → v < 65536 → set (set l i (v % 256)) (i + 1) (v / 256) ≡ with_number 2 l i v
unfolding with_number bytes_of
with_two l i v h = let high : v / 256 % 256 ≡ v / 256 = omega (arith, h) in rw (high, add-one i)

with_halves : (a : ℕ) (l : List ℕ) (i v : ℕ) → v / 256 ^ a < 256 ^ a
    → with_number a (with_number a l i (v % 256 ^ a)) (i + a) (v / 256 ^ a) ≡ with_number (a + a) l i v
with_halves a l i v h =
    ap (with_number a (with_number a l i (v % 256 ^ a)) (i + a)) (sym (mod-eq_of_lt h)) ∙ with_join a a l i v

pub with_four : (l : List ℕ) (i v : ℕ) → v < 4294967296
    → with_number 2 (with_number 2 l i (v % 65536)) (i + 2) (v / 65536) ≡ with_number 4 l i v
with_four l i v h = with_halves 2 l i v (omega arith)

pub with_eight : (l : List ℕ) (i v : ℕ) → v < 18446744073709551616
    → with_number 4 (with_number 4 l i (v % 4294967296)) (i + 4) (v / 4294967296) ≡ with_number 8 l i v
with_eight l i v h = with_halves 4 l i v (omega arith)

sets-before : (l : List ℕ) (i : ℕ) (vs : List ℕ) (j : ℕ) → j < i → get_or (sets l i vs) j 0 ≡ get_or l j 0
sets-before l i [] j h = refl
sets-before l i (v ∷ vs) j h = sets-before (set l i v) (suc i) vs j (omega arith) ∙ get_or-set_other l i j v 0 (λ (e : j ≡ i). omega arith)

sets-beyond : (l : List ℕ) (i : ℕ) (vs : List ℕ) (j : ℕ) → i + length vs ≤ j → get_or (sets l i vs) j 0 ≡ get_or l j 0
sets-beyond l i [] j h = refl
sets-beyond l i (v ∷ vs) j h = sets-beyond (set l i v) (suc i) vs j (omega arith) ∙ get_or-set_other l i j v 0 (λ (e : j ≡ i). omega arith)

-- what is written is read back
pub read_back : (k : ℕ) (l : List ℕ) (i v : ℕ) → i + k ≤ length l → v < 256 ^ k → number_at k (with_number k l i v) i ≡ v
unfolding number_at with_number bytes_of
read_back zero l i v h b = omega arith
read_back (suc k) l i v h b =
    let low : get_or (sets (set l i (v % 256)) (suc i) (bytes_of k (v / 256))) i 0 ≡ v % 256 =
    sets-before (set l i (v % 256)) (suc i) (bytes_of k (v / 256)) i (omega arith) ∙ get_or-set_same l i (v % 256) 0 (omega arith) in
    let fit : suc i + k ≤ length (set l i (v % 256)) = rw length-set (omega arith) in
    rw (low, add-one i, read_back k (set l i (v % 256)) (suc i) (v / 256) fit (omega (arith, pow-succ' 256 k))) (omega arith)

-- a number that lies wholly before or wholly after what is written stays
pub read_elsewhere : (k : ℕ) (l : List ℕ) (i v w j : ℕ) → (j + w ≤ i) ⊎ (i + k ≤ j) → number_at w (with_number k l i v) j ≡ number_at w l j
unfolding with_number
read_elsewhere k l i v w j (inl h) =
    number_same w (sets l i (bytes_of k v)) l j (λ n p q. sets-before l i (bytes_of k v) n (omega arith))
read_elsewhere k l i v w j (inr h) =
    number_same w (sets l i (bytes_of k v)) l j (λ n p q. sets-beyond l i (bytes_of k v) n (rw length_bytes (omega arith)))

-- what lies beyond stays
pub drop_with : (k : ℕ) (l : List ℕ) (i v c : ℕ) → i + k ≤ c → drop c (with_number k l i v) ≡ drop c l
unfolding with_number bytes_of
drop_with zero l i v c h = refl
drop_with (suc k) l i v c h =
    drop_with k (set l i (v % 256)) (suc i) (v / 256) c (omega arith) ∙ drop-set-lt c l i (v % 256) (omega arith)

-- the bytes of the number that a row holds are those bytes of the row
pub bytes_of_number : (k : ℕ) (l : List ℕ) (i : ℕ) → Bytes l → i + k ≤ length l → bytes_of k (number_at k l i) ≡ take k (drop i l)
unfolding bytes_of number_at
bytes_of_number zero l i b h = refl
bytes_of_number (suc k) l i b h =
    let q : (get_or l i 0 + 256 * number_at k l (i + 1)) % 256 ≡ get_or l i 0 = omega (arith, b i) in
    let d : (get_or l i 0 + 256 * number_at k l (i + 1)) / 256 ≡ number_at k l (i + 1) = omega (arith, b i) in
    rw (q, d, bytes_of_number k l (i + 1) b (omega arith), drop-cons l i 0 (omega arith), add-one i)

-- the number that the bytes of v hold is v, wherever they stand in a row
pub number_of_bytes : (k v : ℕ) (before after : List ℕ) → v < 256 ^ k → number_at k (before ++ (bytes_of k v ++ after)) (length before) ≡ v
unfolding bytes_of number_at
number_of_bytes zero v before after h = omega arith
number_of_bytes (suc k) v before after h =
    let e : before ++ (v % 256 ∷ (bytes_of k (v / 256) ++ after)) ≡ (before ++ (v % 256 ∷ [])) ++ (bytes_of k (v / 256) ++ after) =
    sym (append_assoc before (v % 256 ∷ []) (bytes_of k (v / 256) ++ after)) in
    let n : length (before ++ (v % 256 ∷ [])) ≡ length before + 1 = length-append before (v % 256 ∷ []) in
    let r : number_at k (before ++ (v % 256 ∷ (bytes_of k (v / 256) ++ after))) (length before + 1) ≡ v / 256 =
    rw (e, ← n) (number_of_bytes k (v / 256) (before ++ (v % 256 ∷ [])) after (omega (arith, pow-succ' 256 k))) in
    rw (get_or-append_seam before (v % 256) (bytes_of k (v / 256) ++ after) 0, r) (omega arith)
