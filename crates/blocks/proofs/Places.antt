-- Sets of places as numbers: the column of a table, the set of a block, and the list of a set's places. The list grows at its end,
-- as the loop that fills it does. Assumes nothing.
use mathlib.Core.Path.{◌≡◌, refl, sym, ap, subst}
use mathlib.Core.Logic.{◌⊎◌, inl, inr, ⊎_elim, ◌↔◌}
use mathlib.Core.Bool.{true, false}
use mathlib.Core.List.Memᴰ
use mathlib.Core.List.{List, [], ◌∷◌, ◌++◌, append-nil, Memᴰ}
use Prim.Native.Nat.{ℕ, zero, suc, ◌+◌, ◌^◌, ◌<◌, ◌≤◌}
use native.Mathlib.Omega.{arith}
use native.Mathlib.Numerals.{add-one}
use borrow.Author.Tests.{eqb-true}
use lib.Bits.{bit_or, bit_and}
use lib.ListN.{length, get_or, length-append}
use Rattle.blocks.specs.Links.{Link}
use Rattle.std.specs.Prelude.{◌==◌}
use Rattle.sets.specs.Sets.{bit, only, members}
use Rattle.blocks.specs.Blocks.{column_of, block_of, Rising, none, first}
use Rattle.blocks.proofs.Below.{each}
use Rattle.blocks.proofs.Bits.{bit_off, bit_cases, bit_zero, bit_one, bit_one_same, bit-bit_or, or_left, or_right, or_either, and_both, and_left, and_right, joined_keeps, joined_adds, joined_either}
use Rattle.sets.proofs.Sets.{bit_lt}

-- ---- the places that reach i

pub column_has : (t : List ℕ) (k i j : ℕ) → j < k → Link t j i → bit j (column_of t k i) ≡ 1
unfolding column_of
column_has t zero i j h e = absurd (omega arith)
column_has t (suc k) i j h e =
    each (λ (x : ℕ). Link t x i → bit x (column_of t (suc k) i) ≡ 1) k
    (λ x l q. joined_keeps (bit i (get_or t k 0)) (column_of t k i) (2 ^ k) x (column_has t k i x l q))
    (λ q. joined_adds (bit i (get_or t k 0)) (column_of t k i) (2 ^ k) k q (bit_one_same k))
    j h e

pub column_only : (t : List ℕ) (k i j : ℕ) → bit j (column_of t k i) ≡ 1 → (j < k) × Link t j i
unfolding column_of
column_only t zero i j h = absurd (omega (arith, bit_zero j))
column_only t (suc k) i j h =
    ⊎_elim (λ e. old (column_only t k i j e)) new
    (joined_either (bit i (get_or t k 0)) (column_of t k i) (2 ^ k) j (bit_lt i (get_or t k 0)) h)
  where
    old : (j < k) × Link t j i → (j < suc k) × Link t j i
    old s = (omega (arith, s.0), s.1)

    new : (bit i (get_or t k 0) ≡ 1) × (bit j (2 ^ k) ≡ 1) → (j < suc k) × Link t j i
    new s = let e = bit_one j k s.1 in (omega arith, subst (λ (x : ℕ). Link t x i) (sym e) s.0)

-- ---- the set of a block

pub block_bit : (t : List ℕ) (n i j : ℕ) → j < n → (bit j (block_of t n i) ≡ 1) ↔ ((i ≡ j) ⊎ (Link t i j × Link t j i))
block_bit t n i j h = (λ e. ⊎_elim inner own (or_either j (bit_and (get_or t i 0) (column_of t n i)) (2 ^ i) e), back)
  where
    inner : bit j (bit_and (get_or t i 0) (column_of t n i)) ≡ 1 → (i ≡ j) ⊎ (Link t i j × Link t j i)
    inner e =
        inr (
          and_left j (get_or t i 0) (column_of t n i) e,
          (column_only t n i j (and_right j (get_or t i 0) (column_of t n i) e)).1,
        )

    own : bit j (2 ^ i) ≡ 1 → (i ≡ j) ⊎ (Link t i j × Link t j i)
    own e = inl (sym (bit_one j i e))

    back : (i ≡ j) ⊎ (Link t i j × Link t j i) → bit j (block_of t n i) ≡ 1
    back (inl e) =
        or_right j (bit_and (get_or t i 0) (column_of t n i)) (2 ^ i) (subst (λ (x : ℕ). bit x (2 ^ i) ≡ 1) e (bit_one_same i))
    back (inr s) =
        or_left j (bit_and (get_or t i 0) (column_of t n i)) (2 ^ i)
        (and_both j (get_or t i 0) (column_of t n i) s.0 (column_has t n i j h s.1))

-- ---- the places of a set

places_one : (k m : ℕ) → bit k m ≡ 1 → members (suc k) m ≡ members k m ++ (k ∷ [])
unfolding members
places_one k m h = rw h

places_none : (k m : ℕ) → bit k m ≡ 0 → members (suc k) m ≡ members k m
unfolding members
places_none k m h = rw h (append-nil (members k m))

pub places_joins : (k m : ℕ) → (bit k m == 1) ≡ true → members k m ++ (k ∷ []) ≡ members (k + 1) m
places_joins k m f = rw add-one (sym (places_one k m (eqb-true (bit k m) 1 f)))

pub places_stays : (k m : ℕ) → (bit k m == 1) ≡ false → members k m ≡ members (k + 1) m
places_stays k m f = rw add-one (sym (places_none k m (bit_off k m f)))

pub places_length : (k m : ℕ) → length (members (suc k) m) ≡ length (members k m) + bit k m
places_length k m =
    ⊎_elim
    (λ (z : bit k m ≡ 0). omega (arith, ap length (places_none k m z)))
    (λ (o : bit k m ≡ 1). omega (arith, ap length (places_one k m o), length-append (members k m) (k ∷ [])))
    (bit_cases k m)

pub places_most : (k m : ℕ) → length (members k m) ≤ k
unfolding members
places_most zero m = omega arith
places_most (suc k) m = omega (arith, places_length k m, places_most k m, bit_lt k m)

-- a set that holds more places is longer
pub places_more : (k m m' : ℕ) → ((j : ℕ) → bit j m ≡ 1 → bit j m' ≡ 1) → length (members k m) ≤ length (members k m')
unfolding members
places_more zero m m' f = omega arith
places_more (suc k) m m' f =
    let r = places_more k m m' f in
    ⊎_elim
    (λ (z : bit k m ≡ 0). omega (arith, places_length k m, places_length k m'))
    (λ (o : bit k m ≡ 1). omega (arith, places_length k m, places_length k m', f k o))
    (bit_cases k m)

pub places_gain : (k m m' i : ℕ) → ((j : ℕ) → bit j m ≡ 1 → bit j m' ≡ 1) → i < k → bit i m ≡ 0 → bit i m' ≡ 1
    → length (members k m) < length (members k m')
places_gain zero m m' i f h z o = absurd (omega arith)
places_gain (suc k) m m' i f h z o =
    each (λ (x : ℕ). bit x m ≡ 0 → bit x m' ≡ 1 → length (members (suc k) m) < length (members (suc k) m')) k
    (λ x l q r. grown (places_gain k m m' x f l q r))
    (λ q r. omega (arith, places_length k m, places_length k m', places_more k m m' f))
    i h z o
  where
    grown : length (members k m) < length (members k m') → length (members (suc k) m) < length (members (suc k) m')
    grown r =
        ⊎_elim
        (λ (q : bit k m ≡ 0). omega (arith, places_length k m, places_length k m'))
        (λ (q : bit k m ≡ 1). omega (arith, places_length k m, places_length k m', f k q))
        (bit_cases k m)

-- a set of as many places as there are holds each
pub places_full : (k m : ℕ) → k ≤ length (members k m) → (j : ℕ) → j < k → bit j m ≡ 1
places_full zero m h j l = absurd (omega arith)
places_full (suc k) m h j l =
    let b = places_most k m in
    let o : bit k m ≡ 1 = omega (arith, places_length k m, bit_lt k m) in
    each (λ (x : ℕ). bit x m ≡ 1) k (places_full k m (omega (arith, places_length k m))) o j l

-- and a set that holds each has as many
pub places_all : (k m : ℕ) → ((j : ℕ) → j < k → bit j m ≡ 1) → length (members k m) ≡ k
unfolding members
places_all zero m f = refl
places_all (suc k) m f = omega (arith, places_length k m, f k (omega arith), places_all k m (λ j h. f j (omega arith)))

pub places_zero : (k : ℕ) → length (members k 0) ≡ 0
unfolding members
places_zero zero = refl
places_zero (suc k) = omega (arith, places_length k 0, bit_zero k, places_zero k)

-- two sets with no place in common have together as many places as both
pub places_join : (k a b : ℕ) → ((j : ℕ) → j < k → bit j a ≡ 1 → bit j b ≡ 1 → ⊥)
    → length (members k (bit_or a b)) ≡ length (members k a) + length (members k b)
unfolding members
places_join zero a b f = refl
places_join (suc k) a b f =
    let r = places_join k a b (λ j h. f j (omega arith)) in
    let both : bit k (bit_or a b) ≡ bit k a + bit k b =
    ⊎_elim
    (λ (z : bit k a ≡ 0). omega (arith, bit-bit_or k a b))
    (λ (o : bit k a ≡ 1). omega (arith, bit-bit_or k a b, bit_lt k b, f k (omega arith) o))
    (bit_cases k a) in
    omega (arith, places_length k (bit_or a b), places_length k a, places_length k b)

pub places_has : (k m j : ℕ) → j < k → bit j m ≡ 1 → Memᴰ j (members k m)
unfolding members
places_has zero m j h e = absurd (omega arith)
places_has (suc k) m j h e =
    each (λ (x : ℕ). bit x m ≡ 1 → Memᴰ x (members (suc k) m)) k
    (λ x l q. Memᴰ.append_left (only (bit k m) k) (places_has k m x l q))
    (λ q. rw (places_one k m q) (Memᴰ.append_right (members k m) (Memᴰ.head refl)))
    j h e

only_is : (b k j : ℕ) → Memᴰ j (only b k) → (j ≡ k) × (0 < b)
only_is zero k j p = absurd (Memᴰ.not-nil p)
only_is (suc b) k j p = (Memᴰ.eq_of_singleton p, omega arith)

pub places_only : (k m j : ℕ) → Memᴰ j (members k m) → (j < k) × (bit j m ≡ 1)
unfolding members
places_only zero m j p = absurd (Memᴰ.not-nil p)
places_only (suc k) m j p =
    ⊎_elim (λ q. old (places_only k m j q)) (λ q. new (only_is (bit k m) k j q)) (Memᴰ.append_cases (members k m) p)
  where
    old : (j < k) × (bit j m ≡ 1) → (j < suc k) × (bit j m ≡ 1)
    old s = (omega (arith, s.0), s.1)

    new : (j ≡ k) × (0 < bit k m) → (j < suc k) × (bit j m ≡ 1)
    new s =
        let o : bit k m ≡ 1 = omega (arith, s.1, bit_lt k m) in
        (omega (arith, s.0), subst (λ (x : ℕ). bit x m ≡ 1) (sym s.0) o)

-- ---- lists that rise

rising_more : {l : List ℕ} {k : ℕ} → Rising l → ((j : ℕ) → Memᴰ j l → j < k) → Rising (l ++ (k ∷ []))
rising_more none f = first (λ j p. absurd (Memᴰ.not-nil p)) none
rising_more {k = k} (first {k = x} {l = l} g r) f = first above (rising_more r (λ j p. f j (Memᴰ.tail p)))
  where
    above : (j : ℕ) → Memᴰ j (l ++ (k ∷ [])) → x < j
    above j p =
        ⊎_elim (g j)
        (λ q. omega (arith, Memᴰ.eq_of_singleton q, f x (Memᴰ.head refl)))
        (Memᴰ.append_cases l p)

pub places_rising : (k m : ℕ) → Rising (members k m)
unfolding members
places_rising zero m = none
places_rising (suc k) m = go (places_rising k m) (bit_cases k m)
  where
    go : Rising (members k m) → (bit k m ≡ 0) ⊎ (bit k m ≡ 1) → Rising (members k m ++ only (bit k m) k)
    go r (inl z) = rw (z, append-nil) r
    go r (inr o) = rw o (rising_more r (λ j p. (places_only k m j p).0))

-- two lists that rise and have the same members are equal
pub rising_unique : {l p : List ℕ} → Rising l → Rising p → ((j : ℕ) → Memᴰ j l → Memᴰ j p) → ((j : ℕ) → Memᴰ j p → Memᴰ j l) → l ≡ p
rising_unique none none f g = refl
rising_unique none (first {k = y} above r) f g = absurd (Memᴰ.not-nil (g y (Memᴰ.head refl)))
rising_unique (first {k = x} above r) none f g = absurd (Memᴰ.not-nil (f x (Memᴰ.head refl)))
rising_unique (first {k = x} {l = l} a r) (first {k = y} {l = p} b s) f g =
    let e : x ≡ y = heads (Memᴰ.cases_cons (f x (Memᴰ.head refl))) (Memᴰ.cases_cons (g y (Memᴰ.head refl))) in
    let q =
    rising_unique r s
    (λ j m. beyond e (a j m) (Memᴰ.cases_cons (f j (Memᴰ.tail m))))
    (λ j m. beyond (sym e) (b j m) (Memᴰ.cases_cons (g j (Memᴰ.tail m)))) in
    cc
  where
    heads : (x ≡ y) ⊎ Memᴰ x p → (y ≡ x) ⊎ Memᴰ y l → x ≡ y
    heads (inl e) v = e
    heads (inr u) (inl e) = sym e
    heads (inr u) (inr v) = absurd (omega (arith, b x u, a y v))

    beyond : {j u v : ℕ} {o : List ℕ} → u ≡ v → u < j → (j ≡ v) ⊎ Memᴰ j o → Memᴰ j o
    beyond e h (inl q) = absurd (omega arith)
    beyond e h (inr m) = m
