-- The digits of a set, and its members. A member that is taken out leaves the members of the set less its digit, and sums over the members of
-- two sets that share none add up. Assumes nothing.
use mathlib.Core.Path.{◌≡◌, refl, sym, ap, ◌∙◌, subst}
use mathlib.Core.Logic.{◌⊎◌, inl, inr, ⊎_elim}
use mathlib.Core.List.{List, [], ◌∷◌, ◌++◌, append-nil}
use Prim.Native.Nat.{ℕ, zero, suc, ◌+◌, ◌*◌, ◌-◌, ◌/◌, ◌%◌, ◌^◌, ◌<◌, ◌≤◌}
use native.Mathlib.Omega.{arith}
use native.Mathlib.Nat.{pow-succ', eq-or-lt_of_le, le_of_suc-le-suc, mul_assoc}
use lib.Pow.{pow_pos}
use Rattle.tearing.specs.Order.{Pick, here, there, upto, sum_over}
use Rattle.tearing.specs.Weight.{into, all}
use Rattle.sets.specs.Sets.{bit, only, members}
use Rattle.sets.proofs.Sets.{bit_lt}
use Rattle.tearing.proofs.Lists.{Each, each_append, each_map, pick-length, pick_middle, sum-append, sum-pick, sum_mono}

pub bit_le : (d m : ℕ) → bit d m ≡ 1 → 2 ^ d ≤ m
bit_le zero m h = omega arith
bit_le (suc d) m h = let r = bit_le d (m / 2) h in omega (arith, pow-succ' 2 d)

pub bit_self : (d m : ℕ) → bit d m ≡ 1 → bit d (m - 2 ^ d) ≡ 0
bit_self zero m h = omega arith
bit_self (suc d) m h =
    let l = bit_le d (m / 2) h in
    let e : (m - 2 ^ suc d) / 2 ≡ m / 2 - 2 ^ d = omega (arith, pow-succ' 2 d) in
    rw e (bit_self d (m / 2) h)

pub bit_other : (d j m : ℕ) → bit d m ≡ 1 → (j ≡ d → ⊥) → bit j (m - 2 ^ d) ≡ bit j m
bit_other zero zero m h f = absurd (f refl)
bit_other zero (suc j) m h f = let e : (m - 2 ^ 0) / 2 ≡ m / 2 = omega arith in rw e
bit_other (suc d) zero m h f = let l = bit_le d (m / 2) h in omega (arith, pow-succ' 2 d)
bit_other (suc d) (suc j) m h f =
    let l = bit_le d (m / 2) h in
    let e : (m - 2 ^ suc d) / 2 ≡ m / 2 - 2 ^ d = omega (arith, pow-succ' 2 d) in
    rw e (bit_other d j (m / 2) h (λ p. f (ap suc p)))

-- a set that is not empty has a member
pub bit_some : (n m : ℕ) → m < 2 ^ n → 0 < m → (u : ℕ) × (u < n) × (bit u m ≡ 1)
bit_some zero m h p = absurd (omega arith)
bit_some (suc n) m h p =
    ⊎_elim (even (bit_some n (m / 2) (omega (arith, pow-succ' 2 n)))) odd (cases (m % 2) (omega arith))
  where
    cases : (b : ℕ) → b < 2 → (b ≡ 0) ⊎ (b ≡ 1)
    cases zero l = inl refl
    cases (suc zero) l = inr refl
    cases (suc (suc b)) l = absurd (omega arith)

    even : (0 < m / 2 → (u : ℕ) × (u < n) × (bit u (m / 2) ≡ 1)) → m % 2 ≡ 0 → (u : ℕ) × (u < suc n) × (bit u m ≡ 1)
    even f e = let r = f (omega arith) in (suc r.0, omega arith, r.2)

    odd : m % 2 ≡ 1 → (u : ℕ) × (u < suc n) × (bit u m ≡ 1)
    odd e = (0, omega arith, e)

bit_full : (n j : ℕ) → j < n → bit j (2 ^ n - 1) ≡ 1
bit_full zero j h = absurd (omega arith)
bit_full (suc n) zero h = omega (arith, pow-succ' 2 n, pow_pos n)
bit_full (suc n) (suc j) h =
    let e : (2 ^ suc n - 1) / 2 ≡ 2 ^ n - 1 = omega (arith, pow-succ' 2 n, pow_pos n) in
    rw e (bit_full n j (omega arith))

bit_zero : (j : ℕ) → bit j 0 ≡ 0
bit_zero zero = refl
bit_zero (suc j) = bit_zero j

bit_above : (n j m : ℕ) → m < 2 ^ n → n ≤ j → bit j m ≡ 0
bit_above zero j m h l = let e : m ≡ 0 = omega arith in rw e (bit_zero j)
bit_above (suc n) zero m h l = absurd (omega arith)
bit_above (suc n) (suc j) m h l = bit_above n j (m / 2) (omega (arith, pow-succ' 2 n)) (omega arith)

-- the digits of a low part and a high part
bit_join : (d j a b : ℕ) → a < 2 ^ d → bit j (a + 2 ^ d * b) ≡ bit j a + bit j (2 ^ d * b)
bit_join zero j a b h =
    let z : a ≡ 0 = omega arith in
    let e : a + 2 ^ 0 * b ≡ 2 ^ 0 * b = omega arith in
    omega (arith, ap (λ (x : ℕ). bit j x) e, ap (λ (x : ℕ). bit j x) z, bit_zero j)
bit_join (suc d) zero a b h = omega (arith, ap (λ (x : ℕ). x * b) (pow-succ' 2 d), mul_assoc 2 (2 ^ d) b)
bit_join (suc d) (suc j) a b h =
    let q = ap (λ (x : ℕ). x * b) (pow-succ' 2 d) ∙ mul_assoc 2 (2 ^ d) b in
    let e : (a + 2 ^ suc d * b) / 2 ≡ a / 2 + 2 ^ d * b = omega (arith, q) in
    let f : 2 ^ suc d * b / 2 ≡ 2 ^ d * b = omega (arith, q) in
    rw (e, f) (bit_join d j (a / 2) b (omega (arith, pow-succ' 2 d)))

bit_pow : (d : ℕ) → bit d (2 ^ d) ≡ 1
bit_pow zero = refl
bit_pow (suc d) = let e : 2 ^ suc d / 2 ≡ 2 ^ d = omega (arith, pow-succ' 2 d) in rw e (bit_pow d)

-- ---- the members of a set

pub members_below : (k m : ℕ) → Each (λ x. x < k) (members k m)
unfolding members
members_below zero m = tt
members_below (suc k) m =
    each_append (λ x. x < suc k) (members k m) (only (bit k m) k)
    (each_map (λ x. x < k) (λ x. x < suc k) (members k m) (λ x (l : x < k). omega arith) (members_below k m))
    (last (bit k m))
  where
    last : (b : ℕ) → Each (λ x. x < suc k) (only b k)
    last zero = tt
    last (suc b) = (omega arith, tt)

-- sets with the same digits below k have the same members there
members_same : (k a b : ℕ) → ((j : ℕ) → j < k → bit j a ≡ bit j b) → members k a ≡ members k b
unfolding members
members_same zero a b f = refl
members_same (suc k) a b f = rw (f k (omega arith), members_same k a b (λ j h. f j (omega arith)))

pub members_zero : (k : ℕ) → members k 0 ≡ []
unfolding members
members_zero zero = refl
members_zero (suc k) = rw (bit_zero k, members_zero k)

pub members_full : (n k : ℕ) → k ≤ n → members k (2 ^ n - 1) ≡ upto k
unfolding members
members_full n zero h = refl
members_full n (suc k) h = rw (bit_full n k (omega arith), members_full n k (omega arith))

-- a set below 2 ^ n has no member from n on
pub members-beyond : (n k m : ℕ) → m < 2 ^ n → n ≤ k → members k m ≡ members n m
unfolding members
members-beyond n zero m h l = let e : n ≡ 0 = omega arith in rw e
members-beyond n (suc k) m h l =
    ⊎_elim
    (λ (e : n ≡ suc k). rw e)
    (λ (g : n < suc k). rw (bit_above n k m h (omega arith), append-nil) (members-beyond n k m h (omega arith)))
    (eq-or-lt_of_le l)

pick_left : {u : ℕ} {S R : List ℕ} (T : List ℕ) → Pick u S R → Pick u (S ++ T) (R ++ T)
pick_left T here = here
pick_left T (there p) = there (pick_left T p)

pick_top : (k m : ℕ) → bit k m ≡ 1 → Pick k (members (suc k) m) (members (suc k) (m - 2 ^ k))
unfolding members
pick_top k m e =
    rw (e, bit_self k m e, members_same k (m - 2 ^ k) m (λ j h. bit_other k j m e (λ q. omega arith)))
    (pick_middle (members k m) k [])

-- a member that is taken out leaves the members of the set less its digit
pub pick-members : (k m d : ℕ) → d < k → bit d m ≡ 1 → Pick d (members k m) (members k (m - 2 ^ d))
unfolding members
pick-members zero m d h e = absurd (omega arith)
pick-members (suc k) m d h e =
    ⊎_elim
    (λ (q : d ≡ k).
    subst (λ (x : ℕ). Pick x (members (suc k) m) (members (suc k) (m - 2 ^ x))) (sym q)
    (pick_top k m (subst (λ (x : ℕ). bit x m ≡ 1) q e)))
    (λ (l : d < k). rw (bit_other d k m e (λ q. omega arith)) (pick_left _ (pick-members k m d l e)))
    (eq-or-lt_of_le (le_of_suc-le-suc h))

-- and whatever is taken out is a member
abbrev Split : ℕ → List ℕ → List ℕ → List ℕ → Type 0
Split u S T R = ((Q : List ℕ) × Pick u S Q × (R ≡ Q ++ T)) ⊎ ((Q : List ℕ) × Pick u T Q × (R ≡ S ++ Q))

split_there : {u : ℕ} (x : ℕ) {S T R : List ℕ} → Split u S T R → Split u (x ∷ S) T (x ∷ R)
split_there x (inl s) = inl (x ∷ s.0, there s.1, ap (λ (l : List ℕ). x ∷ l) s.2)
split_there x (inr s) = inr (s.0, s.1, ap (λ (l : List ℕ). x ∷ l) s.2)

pick_split : {u : ℕ} (S T : List ℕ) {R : List ℕ} → Pick u (S ++ T) R → Split u S T R
pick_split [] T p = inr (_, p, refl)
pick_split (x ∷ S) T here = inl (S, here, refl)
pick_split (x ∷ S) T (there p) = split_there x (pick_split S T p)

pick_one : {u x : ℕ} {R : List ℕ} → Pick u (x ∷ []) R → (u ≡ x) × (R ≡ [])
pick_one here = (refl, refl)
pick_one (there p) = absurd (omega (arith, pick-length p))

pick-only : {u : ℕ} (b k : ℕ) {R : List ℕ} → Pick u (only b k) R → (u ≡ k) × (0 < b) × (R ≡ [])
pick-only zero k p = absurd (omega (arith, pick-length p))
pick-only (suc b) k p = let r = pick_one p in (r.0, omega arith, r.1)

abbrev Picked : ℕ → ℕ → ℕ → List ℕ → Type 0
Picked k m u R = (u < k) × (bit u m ≡ 1) × (R ≡ members k (m - 2 ^ u))

picked_below : (k m : ℕ) {u : ℕ} {Q R : List ℕ} → Picked k m u Q → R ≡ Q ++ only (bit k m) k → Picked (suc k) m u R
unfolding members
picked_below k m {u} h e =
    (omega (arith, h.0), h.1, rw (bit_other u k m h.1 (λ q. omega (arith, h.0)), ← h.2) e)

picked_top : (k m : ℕ) {u : ℕ} {Q R : List ℕ} → (u ≡ k) × (0 < bit k m) × (Q ≡ []) → R ≡ members k m ++ Q → Picked (suc k) m u R
unfolding members
picked_top k m {u} {Q} {R} h e =
    let b : bit k m ≡ 1 = omega (arith, bit_lt k m, h.1) in (
      omega (arith, h.0),
      rw h.0 b,
      rw (h.0, bit_self k m b, append-nil, members_same k (m - 2 ^ k) m (λ j l. bit_other k j m b (λ q. omega arith)), e, h.2, append-nil) refl,
    )

pub members-pick : (k m : ℕ) {u : ℕ} {R : List ℕ} → Pick u (members k m) R → (u < k) × (bit u m ≡ 1) × (R ≡ members k (m - 2 ^ u))
unfolding members
members-pick zero m p = absurd (omega (arith, pick-length p))
members-pick (suc k) m {u} p =
    ⊎_elim
    (λ s. picked_below k m (members-pick k m {u = u} {R = s.0} s.1) s.2)
    (λ s. picked_top k m (pick-only (bit k m) k s.1) s.2)
    (pick_split (members k m) (only (bit k m) k) p)

-- ---- sums over the members of a set

module _ (f : ℕ → ℕ) where
  only_add : (k x y z : ℕ) → z ≡ x + y → z < 2 → sum_over f (only z k) ≡ sum_over f (only x k) + sum_over f (only y k)
  only_add k zero zero zero e h = refl
  only_add k zero zero (suc z) e h = absurd (omega arith)
  only_add k zero (suc y) zero e h = absurd (omega arith)
  only_add k zero (suc y) (suc z) e h = omega arith
  only_add k (suc x) zero zero e h = absurd (omega arith)
  only_add k (suc x) zero (suc z) e h = omega arith
  only_add k (suc x) (suc y) z e h = absurd (omega arith)

  -- digit by digit
  members_add : (k m a b : ℕ) → ((j : ℕ) → bit j m ≡ bit j a + bit j b) → sum_over f (members k m) ≡ sum_over f (members k a) + sum_over f (members k b)
  unfolding members
  members_add zero m a b h = refl
  members_add (suc k) m a b h =
      rw (
        sum-append f (members k m) (only (bit k m) k),
        sum-append f (members k a) (only (bit k a) k),
        sum-append f (members k b) (only (bit k b) k),
      )
      (omega (arith, members_add k m a b h, only_add k (bit k a) (bit k b) (bit k m) (h k) (bit_lt k m)))

  -- a low part and a high part
  pub members_join : (k d a b : ℕ) → a < 2 ^ d
      → sum_over f (members k (a + 2 ^ d * b)) ≡ sum_over f (members k a) + sum_over f (members k (2 ^ d * b))
  members_join k d a b h = members_add k (a + 2 ^ d * b) a (2 ^ d * b) (λ j. bit_join d j a b h)

  -- one member alone
  pub members_pow : (k d : ℕ) → d < k → sum_over f (members k (2 ^ d)) ≡ f d
  members_pow k d h =
      let z : 2 ^ d - 2 ^ d ≡ 0 = omega arith in
      let e = ap (λ (x : ℕ). members k x) z ∙ members_zero k in
      omega (arith, sum-pick f (pick-members k (2 ^ d) d h (bit_pow d)), ap (λ (S : List ℕ). sum_over f S) e)

  -- no set has more than all
  pub members_most : (k m : ℕ) → sum_over f (members k m) ≤ sum_over f (upto k)
  unfolding members
  members_most zero m = omega arith
  members_most (suc k) m =
      rw (sum-append f (members k m) (only (bit k m) k), sum-append f (upto k) (k ∷ []))
      (omega (arith, members_most k m, one (bit k m)))
    where
      one : (b : ℕ) → sum_over f (only b k) ≤ sum_over f (k ∷ [])
      one zero = omega arith
      one (suc b) = omega arith

pub all_most : (W : ℕ → ℕ → ℕ) (k m : ℕ) → all W (members k m) (members k m) ≤ all W (upto k) (upto k)
all_most W k m =
    omega (
      arith,
      sum_mono (λ u. into W u (members k m)) (λ u. into W u (upto k)) (members k m) (λ u. members_most (λ w. W w u) k m),
      members_most (λ u. into W u (upto k)) k m,
    )
