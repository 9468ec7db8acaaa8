-- Members of lists, lists in which no number stands twice, and lists that rise. Assumes nothing.
use mathlib.Core.List.Memᴰ
use mathlib.Core.List.{List, [], ◌∷◌, ◌++◌, map, Memᴰ}
use mathlib.Core.Logic.{◌⊎◌, inl, inr, ⊎_elim}
use mathlib.Core.Path.{◌≡◌, refl, sym, ap, ◌∙◌, subst}
use Prim.Native.Nat.{ℕ, zero, suc, ◌<◌}
use native.Mathlib.Omega.{arith}
use lib.ListN.{length, get_or}
use Rattle.blocks.specs.Blocks.{Rising, none, first}
use Rattle.tearing.specs.Order.{place_of}
use Rattle.tearing.proofs.Lists.{Each, Distinct}
use Rattle.tearing.proofs.Torn.{place_at}
use Rattle.planner.specs.Demand2.{Rises, none as flat, more}

module _ {A : Type 0} where
  pub mem_at : (l : List A) (i : ℕ) (d : A) → i < length l → Memᴰ (get_or l i d) l
  mem_at [] i d h = absurd (omega arith)
  mem_at (x ∷ l) zero d h = Memᴰ.head refl
  mem_at (x ∷ l) (suc i) d h = Memᴰ.tail (mem_at l i d (omega arith))

  -- where a member stands
  pub at_mem : {x : A} {l : List A} (d : A) → Memᴰ x l → (i : ℕ) × (i < length l) × (get_or l i d ≡ x)
  at_mem d (Memᴰ.head e) = (0, omega arith, sym e)
  at_mem d (Memᴰ.tail p) = let r = at_mem d p in (suc r.0, omega (arith, r.1), r.2)

  -- a list around one of its members
  pub mem_split : {x : A} {l : List A} → Memᴰ x l → (a : List A) × (b : List A) × (l ≡ a ++ (x ∷ b))
  mem_split (Memᴰ.head {x = y} {xs = l} e) = ([], l, ap (λ (z : A). z ∷ l) (sym e))
  mem_split (Memᴰ.tail {x = y} p) = let r = mem_split p in (y ∷ r.0, r.1, ap (λ (l : List A). y ∷ l) r.2)

  pub mem_middle : {x : A} (a b : List A) → Memᴰ x (a ++ (x ∷ b))
  mem_middle a b = Memᴰ.append_right a (Memᴰ.head refl)

  -- with a member more, all the others are still there, and nothing else is
  pub mem_with : {x : A} (a b : List A) (y : A) → Memᴰ x (a ++ b) → Memᴰ x (a ++ (y ∷ b))
  mem_with a b y p = ⊎_elim (Memᴰ.append_left (y ∷ b)) (λ q. Memᴰ.append_right a (Memᴰ.tail q)) (Memᴰ.append_cases a p)

  pub mem_without : {x : A} (a b : List A) (y : A) → Memᴰ x (a ++ (y ∷ b)) → (x ≡ y) ⊎ Memᴰ x (a ++ b)
  mem_without a b y p =
      ⊎_elim
      (λ q. inr (Memᴰ.append_left b q))
      (λ q. ⊎_elim (λ e. inl e) (λ r. inr (Memᴰ.append_right a r)) (Memᴰ.cases_cons q))
      (Memᴰ.append_cases a p)

-- ---- no number stands twice

pub each_mem : (P : ℕ → Type 0) {S : List ℕ} {x : ℕ} → Each P S → Memᴰ x S → P x
each_mem P {S = []} h p = absurd (Memᴰ.not-nil p)
each_mem P {S = y ∷ S} {x} h p = go (each_mem P {S = S} {x = x} h.1) (Memᴰ.cases_cons p)
  where
    go : (Memᴰ x S → P x) → (x ≡ y) ⊎ Memᴰ x S → P x
    go rest (inl e) = subst P (sym e) h.0
    go rest (inr q) = rest q

pub mem_each : (P : ℕ → Type 0) (S : List ℕ) → ((x : ℕ) → Memᴰ x S → P x) → Each P S
mem_each P [] f = tt
mem_each P (x ∷ S) f = (f x (Memᴰ.head refl), mem_each P S (λ y p. f y (Memᴰ.tail p)))

pub distinct_append : (a b : List ℕ) → Distinct a → Distinct b → ((x : ℕ) → Memᴰ x a → Memᴰ x b → ⊥) → Distinct (a ++ b)
distinct_append [] b h k f = k
distinct_append (u ∷ a) b h k f = (
  mem_each (λ x. u ≡ x → ⊥) (a ++ b)
      (λ x p.
      ⊎_elim (each_mem (λ x. u ≡ x → ⊥) h.0) (λ q e. f u (Memᴰ.head refl) (Memᴰ.cast e q)) (Memᴰ.append_cases a p)),
  distinct_append a b h.1 k (λ x p. f x (Memᴰ.tail p)),
)

pub distinct_left : (a b : List ℕ) → Distinct (a ++ b) → Distinct a
distinct_left [] b h = tt
distinct_left (u ∷ a) b h = (
  mem_each (λ x. u ≡ x → ⊥) a (λ x p. each_mem (λ x. u ≡ x → ⊥) h.0 (Memᴰ.append_left b p)),
  distinct_left a b h.1,
)

pub distinct_right : (a b : List ℕ) → Distinct (a ++ b) → Distinct b
distinct_right [] b h = h
distinct_right (u ∷ a) b h = distinct_right a b h.1

-- a number of the front is none of the back
pub distinct_apart : (a b : List ℕ) → Distinct (a ++ b) → (x : ℕ) → Memᴰ x a → Memᴰ x b → ⊥
distinct_apart [] b h x p q = Memᴰ.not-nil p
distinct_apart (u ∷ a) b h x p q =
    ⊎_elim
    (λ e. each_mem (λ y. u ≡ y → ⊥) h.0 (Memᴰ.append_right a q) (sym e))
    (λ r. distinct_apart a b h.1 x r q)
    (Memᴰ.cases_cons p)

pub distinct_once : (a b : List ℕ) (u : ℕ) → Distinct (a ++ (u ∷ b)) → Memᴰ u (a ++ b) → ⊥
distinct_once a b u h p =
    ⊎_elim (λ q. distinct_apart a (u ∷ b) h u q (Memᴰ.head refl))
    (λ q. each_mem (λ x. u ≡ x → ⊥) (distinct_right a (u ∷ b) h).0 q refl)
    (Memᴰ.append_cases a p)

pub once_distinct : (l : List ℕ) → ((a b : List ℕ) (u : ℕ) → l ≡ a ++ (u ∷ b) → Memᴰ u (a ++ b) → ⊥) → Distinct l
once_distinct [] f = tt
once_distinct (u ∷ l) f = (
  mem_each (λ x. u ≡ x → ⊥) l (λ x p e. f [] l u refl (Memᴰ.cast e p)),
  once_distinct l (λ a b v e p. f (u ∷ a) b v (ap (λ (m : List ℕ). u ∷ m) e) (Memᴰ.tail p)),
)

-- so each stands in one place
pub distinct_place : (l : List ℕ) → Distinct l → (i j : ℕ) → i < length l → j < length l → get_or l i 0 ≡ get_or l j 0 → i ≡ j
distinct_place l d i j h k e = sym (place_at l i d h) ∙ ap (λ (x : ℕ). place_of x l) e ∙ place_at l j d k

-- ---- lists that rise

pub rises_distinct : {l : List ℕ} → Rises l → Distinct l
rises_distinct flat = tt
rises_distinct (more {n = n} {l = l} f r) =
    (mem_each (λ x. n ≡ x → ⊥) l (λ x p (e : n ≡ x). omega (arith, f x p)), rises_distinct r)

-- the same of a list of places
pub rising_rises : {l : List ℕ} → Rising l → Rises l
rising_rises none = flat
rising_rises (first f r) = more f (rising_rises r)

pub rises_rising : {l : List ℕ} → Rises l → Rising l
rises_rising flat = none
rises_rising (more f r) = first f (rises_rising r)

-- a list that rises, carried along a function that rises on its members
pub rises_map : (f : ℕ → ℕ) {l : List ℕ} → ((x y : ℕ) → Memᴰ x l → Memᴰ y l → x < y → f x < f y) → Rises l → Rises (map f l)
rises_map f up flat = flat
rises_map f up (more {n = n} {l = l} g r) = more above (rises_map f (λ x y p q. up x y (Memᴰ.tail p) (Memᴰ.tail q)) r)
  where
    above : (m : ℕ) → Memᴰ m (map f l) → f n < m
    above m p =
        let q = Memᴰ.of_map f l p in
        omega (arith, q.2, up n q.0 (Memᴰ.head refl) (Memᴰ.tail q.1) (g q.0 q.1))

-- a list that rises from each place to any later one
pub rises_at : (l : List ℕ) → ((i j : ℕ) → i < j → j < length l → get_or l i 0 < get_or l j 0) → Rises l
rises_at [] f = flat
rises_at (x ∷ l) f = more above (rises_at l (λ i j h k. f (suc i) (suc j) (omega arith) (omega arith)))
  where
    above : (m : ℕ) → Memᴰ m l → x < m
    above m p = let r = at_mem 0 p in omega (arith, f 0 (suc r.0) (omega arith) (omega (arith, r.1)), r.2)

pub rises_up : {l : List ℕ} → Rises l → (i j : ℕ) → i < j → j < length l → get_or l i 0 < get_or l j 0
rises_up flat i j h k = absurd (omega arith)
rises_up (more {l = l} f r) zero zero h k = absurd (omega arith)
rises_up (more {l = l} f r) zero (suc j) h k = f (get_or l j 0) (mem_at l j 0 (omega arith))
rises_up (more f r) (suc i) zero h k = absurd (omega arith)
rises_up (more f r) (suc i) (suc j) h k = rises_up r i j (omega arith) (omega arith)
