-- Taking members out of a list, orders of a list, and sums over one. Each law is an induction on how the member was taken out or the order
-- made. Assumes nothing.
use mathlib.Core.Path.{◌≡◌, refl, ap}
use mathlib.Core.Logic.{⊎_elim}
use mathlib.Core.List.{List, [], ◌∷◌, ◌++◌}
use Prim.Native.Nat.{ℕ, zero, suc, ◌+◌, ◌<◌, ◌≤◌}
use native.Mathlib.Omega.{arith}
use native.Mathlib.Nat.{eq-or-lt_of_le, le_of_suc-le-suc}
use lib.ListN.{length, get_or, length-append}
use Rattle.tearing.specs.Order.{Pick, here, there, Perm, none, next, upto, sum_over}

pub pick-length : {u : ℕ} {S R : List ℕ} → Pick u S R → length S ≡ suc (length R)
pick-length here = refl
pick-length (there p) = ap suc (pick-length p)

pub perm_length : {S o : List ℕ} → Perm S o → length S ≡ length o
perm_length none = refl
perm_length (next p q) = omega (arith, pick-length p, perm_length q)

pub pick_middle : (S : List ℕ) (u : ℕ) (T : List ℕ) → Pick u (S ++ u ∷ T) (S ++ T)
pick_middle [] u T = here
pick_middle (x ∷ S) u T = there (pick_middle S u T)

pub length-upto : (n : ℕ) → length (upto n) ≡ n
length-upto zero = refl
length-upto (suc n) = rw length-append (omega (arith, length-upto n))

-- every member of S is as P says
abbrev pub Each : (ℕ → Type 0) → List ℕ → Type 0
Each P [] = Unit
Each P (x ∷ S) = P x × Each P S

module _ (P : ℕ → Type 0) where
  pub each_pick : {u : ℕ} {S R : List ℕ} → Pick u S R → Each P S → P u × Each P R
  each_pick here h = h
  each_pick (there p) h = let r = each_pick p h.1 in (r.0, (h.0, r.1))

  pub each_perm : {S o : List ℕ} → Perm S o → Each P S → Each P o
  each_perm none h = h
  each_perm (next p q) h = let r = each_pick p h in (r.0, each_perm q r.1)

  pub each_append : (S T : List ℕ) → Each P S → Each P T → Each P (S ++ T)
  each_append [] T h k = k
  each_append (x ∷ S) T h k = (h.0, each_append S T h.1 k)

  pub each_at : (S : List ℕ) (i : ℕ) → i < length S → Each P S → P (get_or S i 0)
  each_at [] i l h = absurd (omega arith)
  each_at (x ∷ S) zero l h = h.0
  each_at (x ∷ S) (suc i) l h = each_at S i (omega arith) h.1

pub each_map : (P Q : ℕ → Type 0) (S : List ℕ) → ((x : ℕ) → P x → Q x) → Each P S → Each Q S
each_map P Q [] f h = h
each_map P Q (x ∷ S) f h = (f x h.0, each_map P Q S f h.1)

-- each member is below those after it
abbrev pub Rising : List ℕ → Type 0
Rising [] = Unit
Rising (u ∷ S) = Each (λ x. u < x) S × Rising S

-- no member is among those after it
abbrev pub Distinct : List ℕ → Type 0
Distinct [] = Unit
Distinct (u ∷ S) = Each (λ x. u ≡ x → ⊥) S × Distinct S

pub rising_distinct : (S : List ℕ) → Rising S → Distinct S
rising_distinct [] h = h
rising_distinct (u ∷ S) h =
    (each_map (λ x. u < x) (λ x. u ≡ x → ⊥) S (λ x (l : u < x) (e : u ≡ x). omega arith) h.0, rising_distinct S h.1)

pub rising_pick : {u : ℕ} {S R : List ℕ} → Pick u S R → Rising S → Rising R
rising_pick here h = h.1
rising_pick (there {x = x} p) h = ((each_pick (λ y. x < y) p h.0).1, rising_pick p h.1)

pub distinct_pick : {u : ℕ} {S R : List ℕ} → Pick u S R → Distinct S → Each (λ x. u ≡ x → ⊥) R × Distinct R
distinct_pick here h = h
distinct_pick (there {u = u} {x = x} p) h =
    let r = distinct_pick p h.1 in
    let a = each_pick (λ y. x ≡ y → ⊥) p h.0 in
    ((λ (e : u ≡ x). a.0 (omega arith), r.0), (a.1, r.1))

pub distinct_perm : {S o : List ℕ} → Perm S o → Distinct S → Distinct o
distinct_perm none h = h
distinct_perm (next {u = u} p q) h =
    let r = distinct_pick p h in (each_perm (λ x. u ≡ x → ⊥) q r.0, distinct_perm q r.1)

pub upto_below : (n : ℕ) → Each (λ x. x < n) (upto n)
upto_below zero = tt
upto_below (suc n) =
    each_append (λ x. x < suc n) (upto n) (n ∷ [])
    (each_map (λ x. x < n) (λ x. x < suc n) (upto n) (λ x (l : x < n). omega arith) (upto_below n))
    (omega arith, tt)

rising_last : (S : List ℕ) (k : ℕ) → Rising S → Each (λ x. x < k) S → Rising (S ++ (k ∷ []))
rising_last [] k h b = (tt, tt)
rising_last (x ∷ S) k h b = (each_append (λ y. x < y) S (k ∷ []) h.0 (b.0, tt), rising_last S k h.1 b.1)

pub rising_upto : (n : ℕ) → Rising (upto n)
rising_upto zero = tt
rising_upto (suc n) = rising_last (upto n) n (rising_upto n) (upto_below n)

-- ---- sums

module _ (f : ℕ → ℕ) where
  pub sum-append : (S T : List ℕ) → sum_over f (S ++ T) ≡ sum_over f S + sum_over f T
  sum-append [] T = omega arith
  sum-append (x ∷ S) T = omega (arith, sum-append S T)

  pub sum-pick : {u : ℕ} {S R : List ℕ} → Pick u S R → sum_over f S ≡ f u + sum_over f R
  sum-pick here = refl
  sum-pick (there p) = omega (arith, sum-pick p)

  pub sum_perm : {S o : List ℕ} → Perm S o → sum_over f S ≡ sum_over f o
  sum_perm none = refl
  sum_perm (next p q) = omega (arith, sum-pick p, sum_perm q)

-- a part is at most the whole
pub sum-upto : (f : ℕ → ℕ) (n u : ℕ) → u < n → f u ≤ sum_over f (upto n)
sum-upto f zero u h = absurd (omega arith)
sum-upto f (suc n) u h =
    rw (sum-append f (upto n) (n ∷ []))
    (⊎_elim (λ (e : u ≡ n). omega (arith, ap f e)) (λ l. omega (arith, sum-upto f n u l)) (eq-or-lt_of_le (le_of_suc-le-suc h)))

pub sum_zero : (S : List ℕ) → sum_over (λ x. 0) S ≡ 0
sum_zero [] = refl
sum_zero (x ∷ S) = omega (arith, sum_zero S)

module _ (f g : ℕ → ℕ) where
  -- functions that agree on the members have the same sum
  pub sum_agree : (S : List ℕ) → Each (λ x. f x ≡ g x) S → sum_over f S ≡ sum_over g S
  sum_agree [] h = refl
  sum_agree (x ∷ S) h = omega (arith, h.0, sum_agree S h.1)

  pub sum_same : (S : List ℕ) → ((x : ℕ) → f x ≡ g x) → sum_over f S ≡ sum_over g S
  sum_same [] h = refl
  sum_same (x ∷ S) h = omega (arith, h x, sum_same S h)

  pub sum_mono : (S : List ℕ) → ((x : ℕ) → f x ≤ g x) → sum_over f S ≤ sum_over g S
  sum_mono [] h = omega arith
  sum_mono (x ∷ S) h = omega (arith, h x, sum_mono S h)

  pub sum_add : (S : List ℕ) → sum_over (λ x. f x + g x) S ≡ sum_over f S + sum_over g S
  sum_add [] = refl
  sum_add (x ∷ S) = omega (arith, sum_add S)
