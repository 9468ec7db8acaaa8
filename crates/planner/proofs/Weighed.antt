-- The weights of a block. What stands in the row for two places is what the streams between their units weigh together, so what an order of
-- the places tears is what the order of their units tears: stream by stream, since both are sums over the streams. Assumes nothing.
use mathlib.Core.Bool.{Bool, true, false, cond, not}
use mathlib.Core.List.Memᴰ
use mathlib.Core.List.{List, [], ◌∷◌, map, Memᴰ}
use mathlib.Core.Logic.{◌⊎◌, inl, inr, ⊎_elim}
use mathlib.Core.Path.{◌≡◌, refl, sym, ap, ◌∙◌, subst}
use Prim.Native.Nat.{ℕ, zero, suc, ◌+◌, ◌*◌, ◌<◌, ◌≤◌}
use native.Mathlib.Nat.{eq-or-lt_of_le, le_of_suc-le-suc}
use native.Mathlib.Omega.{arith}
use borrow.Author.Tests.{eqb-true, eqb-false, eq-eqb, ne_eqb}
use lib.Dec.{eqb}
use lib.ListN.{length, get_or, replicate, length-set, length-map, length-replicate, get_or-replicate}
use lib.Seq.{get_or-set_same, get_or-set_other}
use Rattle.flowsheet.specs.Sheet.{place_of}
use Rattle.std.specs.Prelude.{Option, Some, None}
use Rattle.flowsheet.specs.declared.Stream.{Stream}
use Rattle.tearing.specs.Order.{Perm, upto, choose, stands_before, sum_over, torn, place_of as stands_at}
use Rattle.tearing.specs.Row.{weights}
use Rattle.flowsheet.proofs.Places.{place_found, place_cases, place_nowhere}
use Rattle.tearing.proofs.Lists.{each_map, Distinct, distinct_perm, rising_upto, rising_distinct, upto_below, sum-append, sum_zero, sum_agree, sum_same, sum_add}
use Rattle.tearing.proofs.Torn.{place_at, torn_agree}
use Rattle.planner.specs.Demand2.{torn_weight}
use Rattle.planner.specs.Plan.{charge_at, charged, charged_all, row_of, torn_between, is_torn}
use Rattle.planner.proofs.Found.{not_found, place_is}
use Rattle.planner.proofs.Members.{at_mem, distinct_place}
use Rattle.planner.proofs.Orders.{perm_mem, mem_perm, perm_map, block_at_lem}

-- ---- the row

-- what a stream between two places of the block adds to the weight from i to j
abbrev added_at : Option ℕ → Option ℕ → ℕ → ℕ → ℕ → ℕ
added_at (Some a) (Some b) x i j = choose (eqb a i) (choose (eqb b j) x 0) 0
added_at (Some a) None x i j = 0
added_at None q x i j = 0

abbrev added : List ℕ → Stream → ℕ → ℕ → ℕ
added block s i j = added_at (place_of block s.source) (place_of block s.receiver) s.weight i j

-- what the streams from place i to place j of the block weigh together
abbrev between : List ℕ → List Stream → ℕ → ℕ → ℕ
between block [] i j = 0
between block (s ∷ ss) i j = added block s i j + between block ss i j

length_charge : (p q : Option ℕ) (x : ℕ) (w : List ℕ) → length (charge_at p q x w) ≡ length w
length_charge (Some a) (Some b) x w = length-set w (a * 12 + b) (get_or w (a * 12 + b) 0 + x)
length_charge (Some a) None x w = refl
length_charge None q x w = refl

pub length-charged : (block w : List ℕ) (s : Stream) → length (charged block w s) ≡ length w
unfolding charged
length-charged block w s = length_charge (place_of block s.source) (place_of block s.receiver) s.weight w

charge_adds : (p q : Option ℕ) (x : ℕ) (w : List ℕ) → length w ≡ 144 → ((k : ℕ) → p ≡ Some k → k < 12) → ((k : ℕ) → q ≡ Some k → k < 12)
    → (i j : ℕ) → i < 12 → j < 12 → get_or (charge_at p q x w) (i * 12 + j) 0 ≡ get_or w (i * 12 + j) 0 + added_at p q x i j
charge_adds (Some a) None x w size f g i j h k = omega arith
charge_adds None q x w size f g i j h k = omega arith
charge_adds (Some a) (Some b) x w size f g i j h k = go (eqb a i) refl (eqb b j) refl
  where
    a12 : a < 12
    a12 = f a refl

    b12 : b < 12
    b12 = g b refl

    other : (i * 12 + j ≡ a * 12 + b → ⊥) → get_or (charge_at (Some a) (Some b) x w) (i * 12 + j) 0 ≡ get_or w (i * 12 + j) 0
    other n = get_or-set_other w (a * 12 + b) (i * 12 + j) (get_or w (a * 12 + b) 0 + x) 0 n

    go : (t : Bool) → eqb a i ≡ t → (v : Bool) → eqb b j ≡ v
        → get_or (charge_at (Some a) (Some b) x w) (i * 12 + j) 0 ≡ get_or w (i * 12 + j) 0 + choose t (choose v x 0) 0
    go true d true e =
        let at : i * 12 + j ≡ a * 12 + b = omega (arith, eqb-true a i d, eqb-true b j e) in
        rw at (get_or-set_same w (a * 12 + b) (get_or w (a * 12 + b) 0 + x) 0 (omega (arith, a12, b12)))
    go true d false e = omega (arith, other (λ (n : i * 12 + j ≡ a * 12 + b). eqb-false b j e (omega (arith, eqb-true a i d))))
    go false d v e =
        omega (arith, other (λ (n : i * 12 + j ≡ a * 12 + b). eqb-false a i d (omega (arith, a12, b12))))

charged_adds : (block : List ℕ) → length block ≤ 12 → (ss : List Stream) (w : List ℕ) → length w ≡ 144 → (i j : ℕ) → i < 12 → j < 12
    → weights (charged_all block w ss) i j ≡ weights w i j + between block ss i j
unfolding charged
charged_adds block few [] w size i j h k = omega arith
charged_adds block few (s ∷ ss) w size i j h k =
    let one =
    charge_adds (place_of block s.source) (place_of block s.receiver) s.weight w size
    (λ x e. omega (arith, (place_found block s.source x e).0))
    (λ x e. omega (arith, (place_found block s.receiver x e).0)) i j h k in
    omega (arith, one, charged_adds block few ss (charged block w s) (length-charged block w s ∙ size) i j h k)

row_between : (block : List ℕ) → length block ≤ 12 → (ss : List Stream) (i j : ℕ) → i < 12 → j < 12
    → weights (row_of block ss) i j ≡ between block ss i j
unfolding row_of
row_between block few ss i j h k =
    omega (
      arith,
      charged_adds block few ss (replicate 144 0) (length-replicate {A = ℕ} 144 0) i j h k,
      get_or-replicate {A = ℕ} 144 (i * 12 + j) 0 0 (omega arith),
    )

-- ---- the same in unit numbers

-- what the streams from the unit u to the unit v weigh together
abbrev pub weight_from : ℕ → ℕ → List Stream → ℕ
weight_from u v [] = 0
weight_from u v (s ∷ ss) = choose (eqb s.source u) (choose (eqb s.receiver v) s.weight 0) 0 + weight_from u v ss

choose_nothing : (b : Bool) → choose b 0 0 ≡ 0
choose_nothing true = refl
choose_nothing false = refl

-- a unit stands in place i exactly when the number found is i
same_test : (block : List ℕ) → Distinct block → (u a i : ℕ) → place_of block u ≡ Some a → i < length block → eqb a i ≡ eqb u (get_or block i 0)
same_test block d u a i e h = go (eqb a i) refl
  where
    go : (t : Bool) → eqb a i ≡ t → t ≡ eqb u (get_or block i 0)
    go true q =
        sym (eq-eqb u (get_or block i 0) (sym (place_found block u a e).1 ∙ ap (λ (x : ℕ). get_or block x 0) (eqb-true a i q)))
    go false q =
        let f = place_found block u a e in
        sym (ne_eqb u (get_or block i 0) (λ x. eqb-false a i q (distinct_place block d a i f.0 h (f.1 ∙ x))))

no_test : (block : List ℕ) (u i : ℕ) → place_of block u ≡ None → i < length block → eqb u (get_or block i 0) ≡ false
no_test block u i e h = ne_eqb u (get_or block i 0) (λ x. place_nowhere block u e i h (sym x))

added_units : (block : List ℕ) → Distinct block → (s : Stream) (i j : ℕ) → i < length block → j < length block
    → added block s i j ≡ choose (eqb s.source (get_or block i 0)) (choose (eqb s.receiver (get_or block j 0)) s.weight 0) 0
added_units block d s i j h k = go (place_cases block s.source) (place_cases block s.receiver)
  where
    go : ((a : ℕ) × (place_of block s.source ≡ Some a)) ⊎ (place_of block s.source ≡ None)
        → ((b : ℕ) × (place_of block s.receiver ≡ Some b)) ⊎ (place_of block s.receiver ≡ None)
        → added block s i j ≡ choose (eqb s.source (get_or block i 0)) (choose (eqb s.receiver (get_or block j 0)) s.weight 0) 0
    go (inl p) (inl q) =
        rw (
          p.1,
          q.1,
          same_test block d s.source p.0 i p.1 h,
          same_test block d s.receiver q.0 j q.1 k,
        )
    go (inl p) (inr e) =
        rw (p.1, e, no_test block s.receiver j e k) (sym (choose_nothing (eqb s.source (get_or block i 0))))
    go (inr e) q = rw (e, no_test block s.source i e h)

between_units : (block : List ℕ) → Distinct block → (ss : List Stream) (i j : ℕ) → i < length block → j < length block
    → between block ss i j ≡ weight_from (get_or block i 0) (get_or block j 0) ss
between_units block d [] i j h k = refl
between_units block d (s ∷ ss) i j h k = omega (arith, added_units block d s i j h k, between_units block d ss i j h k)

-- The row holds what the streams between the units of two places weigh together.
pub row_weights : (block : List ℕ) → Distinct block → length block ≤ 12 → (ss : List Stream) (i j : ℕ) → i < length block → j < length block
    → weights (row_of block ss) i j ≡ weight_from (get_or block i 0) (get_or block j 0) ss
row_weights block d few ss i j h k =
    row_between block few ss i j (omega arith) (omega arith) ∙ between_units block d ss i j h k

-- ---- what an order tears

-- a sum of weights tears the sum
torn_add : (A B : ℕ → ℕ → ℕ) (S o : List ℕ) → torn (λ i j. A i j + B i j) S o ≡ torn A S o + torn B S o
unfolding torn
torn_add A B S o =
    sum_same (λ i. sum_over (λ j. choose (stands_before i j o) 0 (A i j + B i j)) S)
    (λ i. sum_over (λ j. choose (stands_before i j o) 0 (A i j)) S + sum_over (λ j. choose (stands_before i j o) 0 (B i j)) S) S
    (λ i.
    sum_same (λ j. choose (stands_before i j o) 0 (A i j + B i j))
    (λ j. choose (stands_before i j o) 0 (A i j) + choose (stands_before i j o) 0 (B i j)) S
    (λ j. split (stands_before i j o) (A i j) (B i j))
    ∙ sum_add (λ j. choose (stands_before i j o) 0 (A i j)) (λ j. choose (stands_before i j o) 0 (B i j)) S)
    ∙ sum_add (λ i. sum_over (λ j. choose (stands_before i j o) 0 (A i j)) S) (λ i. sum_over (λ j. choose (stands_before i j o) 0 (B i j)) S) S
  where
    split : (b : Bool) (x y : ℕ) → choose b 0 (x + y) ≡ choose b 0 x + choose b 0 y
    split true x y = refl
    split false x y = refl

torn_none : (S o : List ℕ) → torn (λ i j. 0) S o ≡ 0
unfolding torn
torn_none S o =
    sum_same (λ i. sum_over (λ j. choose (stands_before i j o) 0 0) S) (λ i. 0) S
    (λ i. sum_same (λ j. choose (stands_before i j o) 0 0) (λ j. 0) S (λ j. choose_nothing (stands_before i j o)) ∙ sum_zero S)
    ∙ sum_zero S

-- of the places below n one is a
sum_one : (n a c : ℕ) → a < n → sum_over (λ i. choose (eqb a i) c 0) (upto n) ≡ c
sum_one zero a c h = absurd (omega arith)
sum_one (suc n) a c h =
    sum-append (λ i. choose (eqb a i) c 0) (upto n) (n ∷ [])
    ∙ ⊎_elim
    (λ (e : a ≡ n).
    let none : sum_over (λ i. choose (eqb a i) c 0) (upto n) ≡ 0 =
    sum_agree (λ i. choose (eqb a i) c 0) (λ i. 0) (upto n)
    (each_map (λ i. i < n) (λ i. choose (eqb a i) c 0 ≡ 0) (upto n)
    (λ i l. ap (λ (b : Bool). choose b c 0) (ne_eqb a i (λ (q : a ≡ i). omega arith))) (upto_below n)) ∙ sum_zero (upto n) in
    omega (arith, none, ap (λ (b : Bool). choose b c 0) (eq-eqb a n e)))
    (λ (l : a < n). omega (arith, sum_one n a c l, ap (λ (b : Bool). choose b c 0) (ne_eqb a n (λ (q : a ≡ n). omega arith))))
    (eq-or-lt_of_le (le_of_suc-le-suc h))

sum-choose : (b : Bool) (f : ℕ → ℕ) (S : List ℕ) → sum_over (λ j. choose b (f j) 0) S ≡ choose b (sum_over f S) 0
sum-choose true f S = refl
sum-choose false f S = sum_zero S

-- the streams from a to b alone are torn or not
torn_one : (n a b x : ℕ) (o : List ℕ) → a < n → b < n
    → torn (λ i j. choose (eqb a i) (choose (eqb b j) x 0) 0) (upto n) o ≡ choose (stands_before a b o) 0 x
unfolding torn
torn_one n a b x o h k =
    sum_same (λ i. sum_over (λ j. choose (stands_before i j o) 0 (choose (eqb a i) (choose (eqb b j) x 0) 0)) (upto n))
    (λ i. choose (eqb a i) (choose (stands_before a b o) 0 x) 0) (upto n)
    (λ i.
    sum_same (λ j. choose (stands_before i j o) 0 (choose (eqb a i) (choose (eqb b j) x 0) 0))
    (λ j. choose (eqb a i) (choose (eqb b j) (choose (stands_before a b o) 0 x) 0) 0) (upto n)
    (λ j. swap i j (eqb a i) refl (eqb b j) refl)
    ∙ sum-choose (eqb a i) (λ j. choose (eqb b j) (choose (stands_before a b o) 0 x) 0) (upto n)
    ∙ ap (λ (y : ℕ). choose (eqb a i) y 0) (sum_one n b (choose (stands_before a b o) 0 x) k))
    ∙ sum_one n a (choose (stands_before a b o) 0 x) h
  where
    swap : (i j : ℕ) (t : Bool) → eqb a i ≡ t → (v : Bool) → eqb b j ≡ v
        → choose (stands_before i j o) 0 (choose t (choose v x 0) 0) ≡ choose t (choose v (choose (stands_before a b o) 0 x) 0) 0
    swap i j true d true e = rw (eqb-true a i d, eqb-true b j e)
    swap i j true d false e = choose_nothing (stands_before i j o)
    swap i j false d v e = choose_nothing (stands_before i j o)

mem_upto : (n a : ℕ) → a < n → Memᴰ a (upto n)
mem_upto zero a h = absurd (omega arith)
mem_upto (suc n) a h =
    ⊎_elim (λ (e : a ≡ n). Memᴰ.append_right (upto n) (Memᴰ.head e)) (λ l. Memᴰ.append_left (n ∷ []) (mem_upto n a l))
    (eq-or-lt_of_le (le_of_suc-le-suc h))

at_map : (f : ℕ → ℕ) (l : List ℕ) (i : ℕ) → i < length l → get_or (map f l) i 0 ≡ f (get_or l i 0)
at_map f [] i h = absurd (omega arith)
at_map f (x ∷ l) zero h = refl
at_map f (x ∷ l) (suc i) h = at_map f l i (omega arith)

module _ (block : List ℕ) (d : Distinct block) where
  abbrev unit : ℕ → ℕ
  unit i = get_or block i 0

  -- an order of the places is an order of their units
  pub units_perm : {o : List ℕ} → Perm (upto (length block)) o → Perm block (map unit o)
  units_perm {o} p = subst (λ (l : List ℕ). Perm l (map unit o)) (block_at_lem block) (perm_map unit p)

  -- a unit stands in it where its place does
  stands_same : {o : List ℕ} → Perm (upto (length block)) o → (u a : ℕ) → place_of block u ≡ Some a → place_of (map unit o) u ≡ Some (stands_at a o)
  stands_same {o} p u a e =
      let f = place_found block u a e in
      let k = at_mem 0 (perm_mem p a (mem_upto (length block) a f.0)) in
      let at : stands_at a o ≡ k.0 =
      ap (λ (x : ℕ). stands_at x o) (sym k.2)
      ∙ place_at o k.0 (distinct_perm p (rising_distinct (upto (length block)) (rising_upto (length block)))) k.1 in
      place_is (map unit o) (distinct_perm (units_perm p) d) u k.0 (omega (arith, k.1, length-map o unit))
      (at_map unit o k.0 k.1 ∙ ap unit k.2 ∙ f.1)
      ∙ ap Some (sym at)

  stands_nowhere : {o : List ℕ} → Perm (upto (length block)) o → (u : ℕ) → place_of block u ≡ None → place_of (map unit o) u ≡ None
  stands_nowhere {o} p u e =
      not_found (map unit o) u (λ m. let k = at_mem 0 (mem_perm (units_perm p) u m) in place_nowhere block u e k.0 k.1 k.2)

  -- a stream alone tears what it tears among the units
  torn_stream : {o : List ℕ} → Perm (upto (length block)) o → (s : Stream)
      → torn (λ i j. added block s i j) (upto (length block)) o ≡ cond (is_torn (map unit o) s) s.weight 0
  unfolding is_torn
  torn_stream {o} p s = go (place_cases block s.source) (place_cases block s.receiver)
    where
      turned : (t : Bool) (x : ℕ) → choose t 0 x ≡ cond (not t) x 0
      turned true x = refl
      turned false x = refl

      nowhere : (q : Option ℕ) (x : ℕ) → cond (torn_between q None) x 0 ≡ 0
      nowhere (Some i) x = refl
      nowhere None x = refl

      go : ((a : ℕ) × (place_of block s.source ≡ Some a)) ⊎ (place_of block s.source ≡ None)
          → ((b : ℕ) × (place_of block s.receiver ≡ Some b)) ⊎ (place_of block s.receiver ≡ None)
          → torn (λ i j. added block s i j) (upto (length block)) o
          ≡ cond (torn_between (place_of (map unit o) s.source) (place_of (map unit o) s.receiver)) s.weight 0
      go (inl a) (inl b) =
          rw (
            a.1,
            b.1,
            stands_same p s.source a.0 a.1,
            stands_same p s.receiver b.0 b.1,
          )
          (torn_one (length block) a.0 b.0 s.weight o (place_found block s.source a.0 a.1).0
          (place_found block s.receiver b.0 b.1).0
          ∙ turned (stands_before a.0 b.0 o) s.weight)
      go (inl a) (inr e) =
          rw (a.1, e, stands_nowhere p s.receiver e)
          (torn_none (upto (length block)) o ∙ sym (nowhere (place_of (map unit o) s.source) s.weight))
      go (inr e) b = rw (e, stands_nowhere p s.source e) (torn_none (upto (length block)) o)

  torn_streams : {o : List ℕ} → Perm (upto (length block)) o → (ss : List Stream)
      → torn (λ i j. between block ss i j) (upto (length block)) o ≡ torn_weight ss (map unit o)
  torn_streams {o} p [] = torn_none (upto (length block)) o
  torn_streams {o} p (s ∷ ss) =
      torn_add (λ i j. added block s i j) (λ i j. between block ss i j) (upto (length block)) o
      ∙ omega (arith, torn_stream p s, torn_streams p ss)

  -- An order of the places tears what the order of their units tears.
  pub torn_units : length block ≤ 12 → (ss : List Stream) {o : List ℕ} → Perm (upto (length block)) o
      → torn (weights (row_of block ss)) (upto (length block)) o ≡ torn_weight ss (map unit o)
  torn_units few ss {o} p =
      torn_agree (weights (row_of block ss)) (λ i j. between block ss i j) (length block) o
      (λ i j h k. row_between block few ss i j (omega arith) (omega arith))
      ∙ torn_streams p ss
