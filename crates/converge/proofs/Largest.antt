-- The largest |y − x| of usable rows: it is one of them, and none is larger. Assumes nothing.
use mathlib.Core.Path.{◌≡◌, refl}
use mathlib.Core.Bool.{Bool, true, false, cond}
use mathlib.Core.List.{List, ◌∷◌}
use mathlib.Core.Logic.{◌⊎◌, inl, inr}
use Prim.Native.Nat.{ℕ, zero, suc, ◌<◌}
use native.Mathlib.Omega.{arith}
use lib.ListN.{length, get_or}
use lib.Ieee.{Float, nan, lt, le}
use lib.Ieee.Scale.{finite}
use Rattle.std.specs.Float.{◌≤ᶠ◌}
use Rattle.std.proofs.lemmas.Bool.{and_parts, cond_both}
use Rattle.std.proofs.lemmas.Float.{le_refl, le_of_lt, le_of_not-lt, le_trans, T_from_true, T_from_false}
use Rattle.converge.specs.Doubles.{larger, usable}
use Rattle.converge.specs.Value.{gap_of}
use Rattle.converge.specs.Row.{largest_from, largest_of, usable_row}
use Rattle.converge.proofs.Flags.{of_T, either}
use Rattle.converge.proofs.Sizes.{finite_number}
use Rattle.converge.proofs.Finite.{gap_finite}

-- ---- the larger of two finite doubles is finite, and neither is above it

module _ (a b : Float) (s : finite a ≡ true) (t : finite b ≡ true) where
  larger_finite : finite (larger a b) ≡ true
  larger_finite = either (λ (v : Float). finite v ≡ true) (lt a b) t s

  larger_left : a ≤ᶠ larger a b
  larger_left = cond_both (lt a b) b a (λ v. a ≤ᶠ v) (λ e. le_of_lt a b (T_from_true _ e)) (λ e. le_refl a (finite_number a s))

  larger_right : b ≤ᶠ larger a b
  larger_right =
      cond_both (lt a b) b a (λ v. b ≤ᶠ v) (λ e. le_refl b (finite_number b t))
      (λ e. le_of_not-lt a b (finite_number a s) (finite_number b t) (T_from_false _ e))

-- ---- rows

at_first : (top : Float) (x y : List Float) → finite top ≡ true → usable_row x ≡ true → usable_row y ≡ true
    → (finite (largest_from top x y) ≡ true) × (top ≤ᶠ largest_from top x y)
unfolding largest_from usable_row
at_first top (a ∷ x) (b ∷ y) s ux uy =
    let u = and_parts (usable a) _ ux in
    let w = and_parts (usable b) _ uy in
    let g = gap_finite a b u.0 w.0 in
    let r = at_first (larger top (gap_of a b)) x y (larger_finite top _ s g) u.1 w.1 in
    (r.0, le_trans top (larger top (gap_of a b)) _ (larger_left top _ s g) r.1)
at_first top _ _ s ux uy = (s, le_refl top (finite_number top s))

at_each : (top : Float) (x y : List Float) (k : ℕ) → finite top ≡ true → usable_row x ≡ true → usable_row y ≡ true → k < length x → k < length y
    → gap_of (get_or x k nan) (get_or y k nan) ≤ᶠ largest_from top x y
unfolding largest_from usable_row
at_each top (a ∷ x) (b ∷ y) zero s ux uy h g =
    let u = and_parts (usable a) _ ux in
    let w = and_parts (usable b) _ uy in
    let d = gap_finite a b u.0 w.0 in
    le_trans (gap_of a b) (larger top (gap_of a b)) _ (larger_right top _ s d) (at_first (larger top (gap_of a b)) x y (larger_finite top _ s d) u.1 w.1).1
at_each top (a ∷ x) (b ∷ y) (suc k) s ux uy h g =
    let u = and_parts (usable a) _ ux in
    let w = and_parts (usable b) _ uy in
    at_each (larger top (gap_of a b)) x y k (larger_finite top _ s (gap_finite a b u.0 w.0)) u.1 w.1 (omega arith) (omega arith)
at_each top _ _ k s ux uy h g = absurd (omega arith)

-- a place of two rows whose |y − x| is v
abbrev pub Attained : Float → List Float → List Float → Type 0
Attained v x y = (k : ℕ) × (k < length x) × (v ≡ gap_of (get_or x k nan) (get_or y k nan))

at_some : (top : Float) (x y : List Float) → (largest_from top x y ≡ top) ⊎ Attained (largest_from top x y) x y
unfolding largest_from
at_some top (a ∷ x) (b ∷ y) = go (lt top (gap_of a b)) (at_some (larger top (gap_of a b)) x y)
  where
    go : (c : Bool)
        → (largest_from (larger top (gap_of a b)) x y ≡ cond c (gap_of a b) top) ⊎ Attained (largest_from (larger top (gap_of a b)) x y) x y
        → (largest_from (larger top (gap_of a b)) x y ≡ top) ⊎ Attained (largest_from (larger top (gap_of a b)) x y) (a ∷ x) (b ∷ y)
    go true (inl e) = inr (0, omega arith, e)
    go false (inl e) = inl e
    go c (inr w) = inr (suc w.0, omega (arith, w.1), w.2)
at_some top _ _ = inl refl

-- v is finite; no |y − x| of the rows is larger; and it is one of them
pub record IsLargest (x y : List Float) (v : Float) : Type 0 where
  pub number : finite v ≡ true
  pub above : (k : ℕ) → k < length x → le (gap_of (get_or x k nan) (get_or y k nan)) v ≡ true
  pub attained : Attained v x y

pub largest_is : (x y : List Float) → length x ≡ length y → 0 < length x → usable_row x ≡ true → usable_row y ≡ true → IsLargest x y (largest_of x y)
unfolding largest_of usable_row
largest_is (a ∷ x) (b ∷ y) level some ux uy =
    record { number = r.0; above = above; attained = attained (at_some (gap_of a b) x y) }
  where
    u : (usable a ≡ true) × (usable_row x ≡ true)
    u = and_parts (usable a) _ ux

    w : (usable b ≡ true) × (usable_row y ≡ true)
    w = and_parts (usable b) _ uy

    d : finite (gap_of a b) ≡ true
    d = gap_finite a b u.0 w.0

    r : (finite (largest_from (gap_of a b) x y) ≡ true) × (gap_of a b ≤ᶠ largest_from (gap_of a b) x y)
    r = at_first (gap_of a b) x y d u.1 w.1

    above : (k : ℕ) → k < suc (length x) → le (gap_of (get_or (a ∷ x) k nan) (get_or (b ∷ y) k nan)) (largest_from (gap_of a b) x y) ≡ true
    above zero h = of_T _ r.1
    above (suc k) h = of_T _ (at_each (gap_of a b) x y k d u.1 w.1 (omega arith) (omega arith))

    attained : (largest_from (gap_of a b) x y ≡ gap_of a b) ⊎ Attained (largest_from (gap_of a b) x y) x y
        → Attained (largest_from (gap_of a b) x y) (a ∷ x) (b ∷ y)
    attained (inl e) = (0, omega arith, e)
    attained (inr w) = (suc w.0, omega (arith, w.1), w.2)
largest_is _ _ level some ux uy = absurd (omega arith)
