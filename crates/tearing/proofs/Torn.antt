-- The torn streams of an order of distinct places weigh what the recursion on the order says. Of the first place's streams those into it are
-- torn, its own with them, and those out of it are not; among the others nothing changes when it is taken away. Assumes nothing.
use mathlib.Core.Path.{◌≡◌, refl, sym, ap, ◌∙◌}
use mathlib.Core.List.{List, [], ◌∷◌}
use Prim.Native.Nat.{ℕ, zero, suc, ◌+◌, ◌<◌}
use native.Mathlib.Omega.{arith}
use borrow.Author.Tests.{eq-eqb, ne_eqb, le-ltb, lt-ltb}
use lib.ListN.{length, get_or}
use lib.Dec.{ltb, leb-suc-suc}
use Rattle.tearing.specs.Order.{Perm, upto, choose, place_of, stands_before, sum_over, torn}
use Rattle.tearing.specs.Weight.{weight}
use Rattle.tearing.proofs.Lists.{each_at, each_map, Distinct, distinct_perm, sum_perm, sum_agree, sum_same, sum_add, sum_zero, upto_below}

place_first : (u : ℕ) (o : List ℕ) → place_of u (u ∷ o) ≡ 0
place_first u o = rw (eq-eqb u u refl)

place_later : (u v : ℕ) (o : List ℕ) → (u ≡ v → ⊥) → place_of v (u ∷ o) ≡ suc (place_of v o)
place_later u v o n = rw (ne_eqb v u (λ (e : v ≡ u). n (sym e)))

-- what stands at i in an order of distinct places has i before it
pub place_at : (o : List ℕ) (i : ℕ) → Distinct o → i < length o → place_of (get_or o i 0) o ≡ i
place_at [] i d h = absurd (omega arith)
place_at (u ∷ o) zero d h = place_first u o
place_at (u ∷ o) (suc i) d h =
    place_later u (get_or o i 0) o (each_at (λ x. u ≡ x → ⊥) o i (omega arith) d.0) ∙ ap suc (place_at o i d.1 (omega arith))

-- so of two that stand at i and at j the one stands before the other where i is below j
pub stands_at : (o : List ℕ) (i j : ℕ) → Distinct o → i < length o → j < length o → stands_before (get_or o i 0) (get_or o j 0) o ≡ ltb i j
stands_at o i j d h k = rw (place_at o i d h, place_at o j d k)

module _ (W : ℕ → ℕ → ℕ) where
  -- what of the streams from i to j is torn
  abbrev Part : List ℕ → ℕ → ℕ → ℕ
  Part o i j = choose (stands_before i j o) 0 (W i j)

  -- all into the first place are torn
  into-first : (u i : ℕ) (o : List ℕ) → Part (u ∷ o) i u ≡ W i u
  into-first u i o = rw (place_first u o, le-ltb (place_of i (u ∷ o)) 0 (omega arith))

  -- none out of it are
  out_first : (u j : ℕ) (o : List ℕ) → (u ≡ j → ⊥) → Part (u ∷ o) u j ≡ 0
  out_first u j o n = rw (place_first u o, place_later u j o n, lt-ltb 0 (suc (place_of j o)) (omega arith))

  -- and it counts for no other
  past_first : (u i j : ℕ) (o : List ℕ) → (u ≡ i → ⊥) → (u ≡ j → ⊥) → Part (u ∷ o) i j ≡ Part o i j
  past_first u i j o n m = rw (place_later u i o n, place_later u j o m, leb-suc-suc (suc (place_of i o)) (place_of j o))

  weighs : (o : List ℕ) → Distinct o → sum_over (λ i. sum_over (λ j. Part o i j) o) o ≡ weight W o
  weighs [] d = refl
  weighs (u ∷ o) d =
      let own = into-first u u o in
      let out : sum_over (λ j. Part (u ∷ o) u j) o ≡ 0 =
      sum_agree (λ j. Part (u ∷ o) u j) (λ j. 0) o
      (each_map (λ j. u ≡ j → ⊥) (λ j. Part (u ∷ o) u j ≡ 0) o (λ j n. out_first u j o n) d.0) ∙ sum_zero o in
      let rest : sum_over (λ i. Part (u ∷ o) i u + sum_over (λ j. Part (u ∷ o) i j) o) o ≡ sum_over (λ i. W i u + sum_over (λ j. Part o i j) o) o =
      sum_agree (λ i. Part (u ∷ o) i u + sum_over (λ j. Part (u ∷ o) i j) o) (λ i. W i u + sum_over (λ j. Part o i j) o) o
      (each_map (λ i. u ≡ i → ⊥) (λ i. Part (u ∷ o) i u + sum_over (λ j. Part (u ∷ o) i j) o ≡ W i u + sum_over (λ j. Part o i j) o) o
      (λ i n.
      let a = into-first u i o in
      let b = sum_agree (λ j. Part (u ∷ o) i j) (λ j. Part o i j) o
      (each_map (λ j. u ≡ j → ⊥) (λ j. Part (u ∷ o) i j ≡ Part o i j) o (λ j m. past_first u i j o n m) d.0) in
      omega arith)
      d.0) in
      let parts = sum_add (λ i. W i u) (λ i. sum_over (λ j. Part o i j) o) o in
      let less = weighs o d.1 in
      omega arith

  pub torn-weight : {S o : List ℕ} → Distinct S → Perm S o → torn W S o ≡ weight W o
  unfolding torn
  torn-weight {S} {o} d p =
      sum_same (λ i. sum_over (λ j. Part o i j) S) (λ i. sum_over (λ j. Part o i j) o) S (λ i. sum_perm (λ j. Part o i j) p)
      ∙ sum_perm (λ i. sum_over (λ j. Part o i j) o) p
      ∙ weighs o (distinct_perm p d)

-- only the weights between the places below n count
pub torn_agree : (W X : ℕ → ℕ → ℕ) (n : ℕ) (o : List ℕ) → ((i j : ℕ) → i < n → j < n → W i j ≡ X i j)
    → torn W (upto n) o ≡ torn X (upto n) o
unfolding torn
torn_agree W X n o h =
    sum_agree (λ i. sum_over (λ j. Part W o i j) (upto n)) (λ i. sum_over (λ j. Part X o i j) (upto n)) (upto n)
    (each_map (λ i. i < n) (λ i. sum_over (λ j. Part W o i j) (upto n) ≡ sum_over (λ j. Part X o i j) (upto n)) (upto n)
    (λ i l.
    sum_agree (λ j. Part W o i j) (λ j. Part X o i j) (upto n)
    (each_map (λ j. j < n) (λ j. Part W o i j ≡ Part X o i j) (upto n)
    (λ j k. ap (λ (x : ℕ). choose (stands_before i j o) 0 x) (h i j l k))
    (upto_below n)))
    (upto_below n))
