-- The size of a double and the order of doubles, where std has no such law. Assumes nothing.
use mathlib.Core.Path.{◌≡◌, refl, sym, ◌∙◌}
use mathlib.Core.Bool.{Bool, true, false, not, ◌&&◌, ◌||◌, and-true, or-false}
use Prim.Native.Nat.{ℕ, ◌+◌, ◌*◌, ◌≤◌}
use native.Mathlib.Omega.{arith}
use borrow.Author.Tests.{eqb-true, eq-eqb, ltb-false}
use lib.Dec.{eqb, ltb}
use lib.IntN.{ℤ}
use lib.Ieee.{Float, nan, inf, fin, of_bits, neg, is_nan, lt, le, eq, up, down}
use lib.Ieee.Scale.{finite}
use Rattle.std.specs.Float.{float_with_sign, NotNan}
use Rattle.std.proofs.lemmas.Float.{lt_irrefl, lt_of_not-le, le_of_not-lt, le_left, lt_of_le_of_lt, T_from_true, T_from_false}
use Rattle.converge.specs.Doubles.{zero64, lowest, bound, mag, usable, beyond}
use Rattle.converge.proofs.Flags.{false_true, of_T}

-- |v| in the library's words
pub mag_is : (v : Float) → float_with_sign false v ≡ mag v
unfolding float_with_sign mag
mag_is nan = refl
mag_is _ = refl

-- ---- a size against a bound, with no size worked out: v lies from -b to b, or beyond one of them

-- what isn't above nothing and what isn't below nothing
apart : (a b : ℕ) → (ltb 0 (a + b) || (eqb a b && eqb a 0)) ≡ true
apart a b = go (ltb 0 (a + b)) refl
  where
    go : (t : Bool) → ltb 0 (a + b) ≡ t → (ltb 0 (a + b) || (eqb a b && eqb a 0)) ≡ true
    go true e = rw e refl
    go false e =
        let none : a + b ≤ 0 = ltb-false 0 (a + b) e in
        rw (e, eq-eqb a b (omega arith), eq-eqb a 0 (omega arith)) refl

equal_turned : (a b : ℕ) → eqb a b ≡ eqb b a
equal_turned a b = go (eqb a b) (eqb b a) refl refl
  where
    go : (t u : Bool) → eqb a b ≡ t → eqb b a ≡ u → t ≡ u
    go true u e f = sym (sym f ∙ eq-eqb b a (sym (eqb-true a b e)))
    go false true e f = sym e ∙ eq-eqb a b (sym (eqb-true b a f))
    go false false e f = refl

module _ (n : ℕ) (d : ℤ) where
  pub within : (v : Float) → (le (fin true n d) v && le v (fin false n d)) ≡ le (mag v) (fin false n d)
  unfolding le lt eq mag
  within nan = refl
  within (inf true) = refl
  within (inf false) = refl
  within (fin false m e) = rw (apart (n * up d * down e) (m * up e * down d)) refl
  within (fin true m e) = rw (apart (m * up e * down d) (n * up d * down e), equal_turned (n * up d * down e) (m * up e * down d)) (and-true _)

  pub outside : (v : Float) → (lt (fin false n d) v || lt v (fin true n d)) ≡ lt (fin false n d) (mag v)
  unfolding lt mag
  outside nan = refl
  outside (inf true) = refl
  outside (inf false) = refl
  outside (fin false m e) = or-false _
  outside (fin true m e) = refl

-- what the rules bound
usable_is : (v : Float) → (le (neg bound) v && le v bound) ≡ usable v
unfolding usable neg of_bits
usable_is v = within _ _ v

beyond_is : (v : Float) → (lt bound v || lt v (neg bound)) ≡ beyond v
unfolding beyond neg of_bits
beyond_is v = outside _ _ v

-- as a test that stops at its first half asks
pub usable_above : (v : Float) → le (neg bound) v ≡ true → le v bound ≡ usable v
usable_above v e = rw e at (usable_is v)

pub usable_below : (v : Float) → le (neg bound) v ≡ false → le (neg bound) v ≡ usable v
usable_below v e = e ∙ rw e at (usable_is v)

pub beyond_above : (v : Float) → lt bound v ≡ true → lt bound v ≡ beyond v
beyond_above v e = e ∙ rw e at (beyond_is v)

pub beyond_below : (v : Float) → lt bound v ≡ false → lt v (neg bound) ≡ beyond v
beyond_below v e = rw e at (beyond_is v)

-- what is finite is a number
pub finite_number : (v : Float) → finite v ≡ true → NotNan v
unfolding is_nan
finite_number (fin s m e) f = tt
finite_number _ f = false_true f

-- of two numbers, what isn't at most the other is above it
pub not_le : (x y : Float) → NotNan x → NotNan y → not (le x y) ≡ lt y x
not_le x y p q = go (le x y) (lt y x) refl refl
  where
    go : (a b : Bool) → le x y ≡ a → lt y x ≡ b → not a ≡ b
    go true true e f = absurd (lt_irrefl x (lt_of_le_of_lt x y x (T_from_true _ e) (T_from_true _ f)))
    go false false e f = false_true (sym f ∙ of_T _ (lt_of_not-le x y p q (T_from_false _ e)))
    go _ _ e f = refl

-- ---- the clamp

-- what is not below −5 and at most 0 is at least −5
pub lowest_le : (q : Float) → lt q lowest ≡ false → le q zero64 ≡ true → le lowest q ≡ true
unfolding is_nan neg of_bits
lowest_le q h k = of_T _ (le_of_not-lt q lowest (le_left q zero64 (T_from_true _ k)) tt (T_from_false _ h))

pub ends : (le lowest lowest ≡ true) × (le lowest zero64 ≡ true) × (le zero64 zero64 ≡ true)
unfolding lt le eq neg of_bits
ends = (refl, refl, refl)
