-- The bits of a number, and what `|`, `&` and a power of two do to them. An operation that works digit by digit works bit by bit,
-- which is one induction for both. Assumes nothing.
use mathlib.Core.Path.{◌≡◌, refl, sym, ap, ◌∙◌}
use mathlib.Core.Logic.{◌⊎◌, inl, inr, ⊎_elim}
use mathlib.Core.Bool.{false}
use Prim.Native.Nat.{ℕ, zero, suc, ◌+◌, ◌*◌, ◌/◌, ◌%◌, ◌^◌, ◌<◌, min, max}
use native.Mathlib.Omega.{arith}
use native.Mathlib.Nat.{pow-succ'}
use native.Mathlib.Decide.{ℕ_discrete}
use borrow.Author.Tests.{eqb-false}
use lib.Arith.{bin_ind}
use lib.Bits.{bit_or, bit_and, or_step, and_step}
use Rattle.std.specs.Prelude.{◌==◌}
use Rattle.sets.specs.Sets.{bit}
use Rattle.blocks.specs.Reach.{joined}
use Rattle.sets.proofs.Sets.{bit_lt}

pub bit_cases : (j m : ℕ) → (bit j m ≡ 0) ⊎ (bit j m ≡ 1)
bit_cases j m = go (bit j m) (bit_lt j m)
  where
    go : (b : ℕ) → b < 2 → (b ≡ 0) ⊎ (b ≡ 1)
    go zero h = inl refl
    go (suc zero) h = inr refl
    go (suc (suc b)) h = absurd (omega arith)

-- a place that a test doesn't find in a set has the digit 0
pub bit_off : (j m : ℕ) → (bit j m == 1) ≡ false → bit j m ≡ 0
bit_off j m h = ⊎_elim (λ z. z) (λ o. absurd (eqb-false (bit j m) 1 h o)) (bit_cases j m)

pub bit_zero : (j : ℕ) → bit j 0 ≡ 0
bit_zero zero = refl
bit_zero (suc j) = bit_zero j

-- ---- the set of one place

pub bit_one_same : (j : ℕ) → bit j (2 ^ j) ≡ 1
bit_one_same zero = refl
bit_one_same (suc j) = let e : 2 ^ suc j / 2 ≡ 2 ^ j = omega (arith, pow-succ' 2 j) in ap (bit j) e ∙ bit_one_same j

bit_one_other : (j p : ℕ) → (j ≡ p → ⊥) → bit j (2 ^ p) ≡ 0
bit_one_other zero zero f = absurd (f refl)
bit_one_other zero (suc p) f = omega (arith, pow-succ' 2 p)
bit_one_other (suc j) zero f = bit_zero j
bit_one_other (suc j) (suc p) f =
    let e : 2 ^ suc p / 2 ≡ 2 ^ p = omega (arith, pow-succ' 2 p) in
    ap (bit j) e ∙ bit_one_other j p (λ q. f (ap suc q))

pub bit_one : (j p : ℕ) → bit j (2 ^ p) ≡ 1 → j ≡ p
bit_one j p h = elim (ℕ_discrete j p) [ yes e ↦ e | no f ↦ absurd (omega (arith, bit_one_other j p f)) ]

-- ---- an operation that works digit by digit

module _ (op f : ℕ → ℕ → ℕ)
    (step : (a b : ℕ) → op a b ≡ op (a / 2) (b / 2) * 2 + f (a % 2) (b % 2))
    (small : (x y : ℕ) → x < 2 → y < 2 → f x y < 2) where
  bit_op : (j a b : ℕ) → bit j (op a b) ≡ f (bit j a) (bit j b)
  bit_op zero a b = omega (arith, step a b, small (a % 2) (b % 2) (omega arith) (omega arith))
  bit_op (suc j) a b =
      let e : op a b / 2 ≡ op (a / 2) (b / 2) = omega (arith, step a b, small (a % 2) (b % 2) (omega arith) (omega arith)) in
      ap (bit j) e ∙ bit_op j (a / 2) (b / 2)

pub bit-bit_or : (j a b : ℕ) → bit j (bit_or a b) ≡ max (bit j a) (bit j b)
bit-bit_or = bit_op bit_or max or_step (λ x y h k. omega arith)

pub bit-bit_and : (j a b : ℕ) → bit j (bit_and a b) ≡ min (bit j a) (bit j b)
bit-bit_and = bit_op bit_and min and_step (λ x y h k. omega arith)

pub or_left : (j a b : ℕ) → bit j a ≡ 1 → bit j (bit_or a b) ≡ 1
or_left j a b h = omega (arith, bit-bit_or j a b, bit_lt j b)

pub or_right : (j a b : ℕ) → bit j b ≡ 1 → bit j (bit_or a b) ≡ 1
or_right j a b h = omega (arith, bit-bit_or j a b, bit_lt j a)

pub or_either : (j a b : ℕ) → bit j (bit_or a b) ≡ 1 → (bit j a ≡ 1) ⊎ (bit j b ≡ 1)
or_either j a b h =
    ⊎_elim (λ (e : bit j a ≡ 0). inr (omega (arith, bit-bit_or j a b, bit_lt j b))) (λ e. inl e) (bit_cases j a)

pub and_both : (j a b : ℕ) → bit j a ≡ 1 → bit j b ≡ 1 → bit j (bit_and a b) ≡ 1
and_both j a b h k = omega (arith, bit-bit_and j a b)

pub and_left : (j a b : ℕ) → bit j (bit_and a b) ≡ 1 → bit j a ≡ 1
and_left j a b h = omega (arith, bit-bit_and j a b, bit_lt j a)

pub and_right : (j a b : ℕ) → bit j (bit_and a b) ≡ 1 → bit j b ≡ 1
and_right j a b h = omega (arith, bit-bit_and j a b, bit_lt j b)

-- ---- a set that lies in another

pub or_within : (a m : ℕ) → ((j : ℕ) → bit j a ≡ 1 → bit j m ≡ 1) → bit_or a m ≡ m
or_within =
    bin_ind (λ (a : ℕ). (m : ℕ) → ((j : ℕ) → bit j a ≡ 1 → bit j m ≡ 1) → bit_or a m ≡ m) (λ m h. refl)
    (λ a ih m h.
    let r = ih (m / 2) (λ j. h (suc j)) in
    ⊎_elim
    (λ (z : a % 2 ≡ 0). omega (arith, or_step a m))
    (λ (o : a % 2 ≡ 1). omega (arith, or_step a m, h 0 o))
    (bit_cases 0 a))

pub within_or : (a m : ℕ) → bit_or a m ≡ m → (j : ℕ) → bit j a ≡ 1 → bit j m ≡ 1
within_or a m e j h = sym (ap (bit j) e) ∙ or_left j a m h

-- ---- a set that may be joined to another

pub joined_keeps : (b m more j : ℕ) → bit j m ≡ 1 → bit j (joined b m more) ≡ 1
joined_keeps zero m more j h = h
joined_keeps (suc b) m more j h = or_left j m more h

pub joined_adds : (b m more j : ℕ) → b ≡ 1 → bit j more ≡ 1 → bit j (joined b m more) ≡ 1
joined_adds zero m more j e h = absurd (omega arith)
joined_adds (suc b) m more j e h = or_right j m more h

pub joined_either : (b m more j : ℕ) → b < 2 → bit j (joined b m more) ≡ 1 → (bit j m ≡ 1) ⊎ ((b ≡ 1) × (bit j more ≡ 1))
joined_either zero m more j l h = inl h
joined_either (suc b) m more j l h = ⊎_elim (λ e. inl e) (λ e. inr (omega arith, e)) (or_either j m more h)
