-- The first number that is given, in order: of two, and of the places of a table. Assumes nothing.
use mathlib.Core.Logic.{◌⊎◌, inl, inr, ⊎_elim}
use mathlib.Core.Path.{◌≡◌, refl, ap, ◌∙◌}
use Prim.Native.Nat.{ℕ, zero, suc, ◌+◌, ◌-◌, ◌≤◌, ◌<◌}
use native.Mathlib.Nat.{eq-or-lt_of_le}
use native.Mathlib.Numerals.{add-one}
use native.Mathlib.Omega.{arith}
use borrow.Author.Count.{below_more}
use Rattle.flowsheet.specs.Image.{first, first_from, before}

pub first_none : (a b : ℕ) → a ≡ 0 → first a b ≡ b
first_none a b e = rw e

pub first_given : (a b : ℕ) → (a ≡ 0 → ⊥) → first a b ≡ a
first_given zero b f = absurd (f refl)
first_given (suc a) b f = refl

pub first_or_none : (a : ℕ) → first a 0 ≡ a
first_or_none zero = refl
first_or_none (suc a) = refl

pub first_from_same : (f g : ℕ → ℕ) (i n : ℕ) → ((j : ℕ) → f j ≡ g j) → first_from f i n ≡ first_from g i n
first_from_same f g i zero h = refl
first_from_same f g i (suc n) h = rw (h i, first_from_same f g (suc i) n h)

pub before_more : (f : ℕ → ℕ) (i : ℕ) → before f (i + 1) ≡ f i
before_more f i = rw (add-one i)

module _ (f : ℕ → ℕ) where
  -- one place further, as a loop up to n goes
  pub first_step : (i n : ℕ) → i < n → first_from f i (n - i) ≡ first (f i) (first_from f (i + 1) (n - (i + 1)))
  first_step i n h = let e : n - i ≡ suc (n - (i + 1)) = omega arith in rw (e, add-one i)

  pub first-all : (i n : ℕ) → ((j : ℕ) → i ≤ j → j < i + n → f j ≡ 0) → first_from f i n ≡ 0
  first-all i zero h = refl
  first-all i (suc n) h = rw (h i (omega arith) (omega arith), first-all (suc i) n (λ j p q. h j (omega arith) (omega arith)))

  -- the first place at which a number is given decides
  pub first_at : (i n k : ℕ) → i ≤ k → k < i + n → ((j : ℕ) → i ≤ j → j < k → f j ≡ 0) → (f k ≡ 0 → ⊥) → first_from f i n ≡ f k
  first_at i zero k p q h some = absurd (omega arith)
  first_at i (suc n) k p q h some =
      ⊎_elim
      (λ (e : i ≡ k). ap (λ (j : ℕ). first (f j) (first_from f (suc i) n)) e ∙ first_given (f k) (first_from f (suc i) n) some)
      (λ (l : i < k).
      first_none (f i) (first_from f (suc i) n) (h i (omega arith) l)
      ∙ first_at (suc i) n k (omega arith) (omega arith) (λ j a b. h j (omega arith) b) some)
      (eq-or-lt_of_le p)

-- of places that are each P or Q: all below n are P, or one is Q and those before it are P
pub search_first : (P Q : ℕ → Type 0) → ((i : ℕ) → P i ⊎ Q i) → (n : ℕ)
    → ((i : ℕ) → i < n → P i) ⊎ ((i : ℕ) × (i < n) × ((j : ℕ) → j < i → P j) × Q i)
search_first P Q d zero = inl (λ i h. absurd (omega arith))
search_first P Q d (suc n) = ⊎_elim clean found (search_first P Q d n)
  where
    clean : ((i : ℕ) → i < n → P i)
        → ((i : ℕ) → i < suc n → P i) ⊎ ((i : ℕ) × (i < suc n) × ((j : ℕ) → j < i → P j) × Q i)
    clean h =
        ⊎_elim (λ (p : P n). inl (λ i l. below_more P n h p i (omega arith))) (λ (q : Q n). inr (n, omega arith, h, q)) (d n)

    found : ((i : ℕ) × (i < n) × ((j : ℕ) → j < i → P j) × Q i)
        → ((i : ℕ) → i < suc n → P i) ⊎ ((i : ℕ) × (i < suc n) × ((j : ℕ) → j < i → P j) × Q i)
    found r = inr (r.0, omega (arith, r.1), r.2, r.3)
