-- No NaN and no infinity arises from accepted values: the size of each number is at most a whole number that the format has,
-- and rounding does not carry a number past that. Assumes nothing.
use mathlib.Core.Path.{◌≡◌, refl, sym, ◌∙◌, ap, subst}
use mathlib.Core.Bool.{Bool, true, false, not, cond, ◌&&◌, ◌||◌, beq}
use mathlib.Core.Logic.{⊎_elim}
use Prim.Native.Nat.{ℕ, zero, suc, ◌+◌, ◌*◌, ◌-◌, ◌^◌, ◌<◌, ◌≤◌}
use native.Mathlib.Omega.{arith}
use native.Mathlib.Nat.{mul-pos, mul-le-mul, mul-le-mul_right, mul_assoc, mul_comm, mul-mul-mul_comm, add-mul, le_refl}
use lib.Dec.{T, eqb, ltb, leb, eqb-suc-zero, lit≤}
use lib.IntN.{ℤ, pos}
use lib.Ieee.{Float, inf, fin, Format, binary64, of_bits, up, down, neg, lt, le, eq, is_nan, add, sub, mul, div, sum, round, units, odd, prec, low, emax, unlike}
use lib.Ieee.Back.{round_whole}
use lib.Ieee.Exact.{HasValue}
use lib.Ieee.Fits.{down_pos, round_is}
use lib.Ieee.Order.{round_mono, transfer}
use lib.Ieee.Scale.{finite}
use borrow.Author.Tests.{ltb-true, eqb-true, eq-eqb}
use Rattle.std.proofs.lemmas.Bool.{and_parts, or_cases, or_right}
use Rattle.std.proofs.lemmas.Float.{le_trans, T_from_true, T_from_false}
use Rattle.converge.specs.Doubles.{zero64, one64, lowest, bound, finest, coarsest, mag, larger, usable}
use Rattle.converge.specs.Value.{gap_of, clamped, rise, factor_of, next_of, usable_record}
use Rattle.converge.specs.declared.History.{History}
use Rattle.converge.proofs.Flags.{true_false, false_true, of_T, either}
use Rattle.converge.proofs.Sizes.{not_le, lowest_le, ends}

-- the size of a value is at most K
data Below : Float → ℕ → Type 0 where
  at : (s : Bool) (m : ℕ) (e : ℤ) {K : ℕ} → m * up e ≤ K * down e → Below (fin s m e) K

below_finite : {v : Float} {K : ℕ} → Below v K → finite v ≡ true
below_finite (at s m e h) = refl

below_mag : {v : Float} {K : ℕ} → Below v K → Below (mag v) K
unfolding mag
below_mag (at s m e h) = at false m e h

below_neg : {v : Float} {K : ℕ} → Below v K → Below (neg v) K
unfolding neg
below_neg (at s m e h) = at (not s) m e h

-- numbers of which one is below the other, or level with it
at_most : (a b : ℕ) (q : Bool) → (q ≡ true → a ≡ b) → (ltb a b || (q && true)) ≡ true → a ≤ b
at_most a b q f h =
    ⊎_elim
    (λ (l : ltb a b ≡ true). let z = ltb-true a b l in omega arith)
    (λ (e : (q && true) ≡ true). let z = f (and_parts q true e).0 in omega arith)
    (or_cases (ltb a b) (q && true) h)

-- what is at most y in size, where y is K
below_value : (v y : Float) (K : ℕ) → HasValue y false K 1 → T (le (mag v) y) → Below v K
unfolding mag le lt eq
below_value (fin s n e) (fin false m d) K p h =
    let z = at_most (n * up e * down d) (m * up d * down e) _ (eqb-true _ _) (of_T _ h) in
    let w : n * up e * 1 ≤ K * down e =
    transfer (n * up e) K (down e) 1 (n * up e) (m * up d) (down e) (down d) (down_pos e) (down_pos d) refl (omega (arith, p.1)) z in
    at s n e (omega arith)
below_value (fin s n e) (fin true m d) K p h = true_false p.0
below_value _ (fin t m d) K p h = absurd h
below_value _ _ K p h = absurd p

-- ---- rounding

-- it does not look at the sign
mag_odd : (d : ℕ) (s : Bool) (q k l : ℕ) → mag (odd d s q k l) ≡ odd d false q k l
unfolding mag odd
mag_odd d s zero k l = refl
mag_odd d s (suc q) k l = refl

mag_either : (t s : Bool) (x y : Float) → mag x ≡ y → mag (cond t x (inf s)) ≡ cond t y (inf false)
unfolding mag
mag_either true s x y e = e
mag_either false s x y e = refl

mag_units : (f : Format) (s : Bool) (q k : ℕ) → mag (units f s q k) ≡ units f false q k
unfolding units
mag_units f s q k =
    mag_either (ltb (q * 2 ^ k) (2 ^ (low f + suc (emax f)))) s (odd (suc (prec f)) s q k (low f)) (odd (suc (prec f)) false q k (low f))
    (mag_odd (suc (prec f)) s q k (low f))

mag_round : (f : Format) (s : Bool) (a c : ℕ) → mag (round f s a c) ≡ round f false a c
mag_round f s a c = ap mag (round_is f s a c) ∙ mag_units f s _ _ ∙ sym (round_is f false a c)

-- it never gives a NaN
odd_number : (d : ℕ) (s : Bool) (q k l : ℕ) → is_nan (odd d s q k l) ≡ false
unfolding is_nan odd
odd_number d s zero k l = refl
odd_number d s (suc q) k l = refl

units_number_lem : (f : Format) (s : Bool) (q k : ℕ) → is_nan (units f s q k) ≡ false
unfolding is_nan units
units_number_lem f s q k =
    either (λ (v : Float). is_nan v ≡ false) (ltb (q * 2 ^ k) (2 ^ (low f + suc (emax f)))) (odd_number (suc (prec f)) s q k (low f)) refl

round_number : (f : Format) (s : Bool) (a c : ℕ) → is_nan (round f s a c) ≡ false
round_number f s a c = ap is_nan (round_is f s a c) ∙ units_number_lem f s _ _

-- ---- an operation whose exact result is at most K gives at most K, where the format has each whole number up to K

-- 2 ^ 53 and below
abbrev Few : ℕ → Type 0
Few K = T (leb K (2 ^ 53))

round_below : {K : ℕ} (s : Bool) (a c : ℕ) → 0 < c → a ≤ K * c → Few K → Below (round binary64 s a c) K
round_below {K} s a c p h few =
    below_value (round binary64 s a c) (round binary64 false K 1) K (round_whole binary64 false K (lit≤ few))
    (subst (λ (z : Float). T (le z (round binary64 false K 1))) (sym (mag_round binary64 s a c))
    (round_mono binary64 a c K 1 p (omega arith) (omega arith)))

sum_below : {K : ℕ} (s : Bool) (a : ℕ) (t : Bool) (b c : ℕ) → 0 < c → a + b ≤ K * c → Few K → Below (sum binary64 s a t b c) K
unfolding sum
sum_below {K} s a t b c p h few =
    either (λ (v : Float). Below v K) (beq s t) (round_below s (a + b) c p h few)
    (either (λ (v : Float). Below v K) (ltb a b) (round_below t (b - a) c p (omega arith) few) (round_below (s && ltb b a) (a - b) c p (omega arith) few))

rejoin : (x y I J d g : ℕ) → x ≤ I * d → y ≤ J * g → x * g + y * d ≤ (I + J) * (d * g)
rejoin x y I J d g a b =
    let p : x * g ≤ I * d * g = mul-le-mul_right g a in
    let q : y * d ≤ J * g * d = mul-le-mul_right d b in
    let r : I * d * g ≡ I * (d * g) = mul_assoc I d g in
    let s : J * g * d ≡ J * (d * g) = mul_assoc J g d ∙ ap (λ (z : ℕ). J * z) (mul_comm g d) in
    let t = add-mul I J (d * g) in
    omega arith

mul_below : {x y : Float} {I J : ℕ} → Below x I → Below y J → Few (I * J) → Below (mul binary64 x y) (I * J)
unfolding mul
mul_below {I = I} {J} (at s n d a) (at t l g b) few =
    round_below (unlike s t) (n * up d * (l * up g)) (down d * down g) (mul-pos (down_pos d) (down_pos g))
    (subst (λ (r : ℕ). n * up d * (l * up g) ≤ r) (mul-mul-mul_comm I (down d) J (down g)) (mul-le-mul a b)) few

add_below : {x y : Float} {I J : ℕ} → Below x I → Below y J → Few (I + J) → Below (add binary64 x y) (I + J)
unfolding add
add_below {I = I} {J} (at s n d a) (at t l g b) few =
    sum_below s (n * up d * down g) t (l * up g * down d) (down d * down g) (mul-pos (down_pos d) (down_pos g))
    (rejoin (n * up d) (l * up g) I J (down d) (down g) a b) few

sub_below : {x y : Float} {I J : ℕ} → Below x I → Below y J → Few (I + J) → Below (sub binary64 x y) (I + J)
unfolding sub
sub_below a b few = add_below a (below_neg b) few

-- ---- what is handed in

abbrev 10¹² : ℕ
10¹² = 1000000000000

usable_below : (v : Float) → usable v ≡ true → Below v 10¹²
unfolding usable of_bits
usable_below v h = below_value v bound 10¹² (refl, refl) (T_from_true _ h)

one_below : Below one64 1
unfolding of_bits
one_below = at false 1 (pos 0) (le_refl 1)

tolerance_below : (t : Float) → le finest t ≡ true → le t coarsest ≡ true → Below t 1
unfolding mag le lt eq of_bits
tolerance_below (inf true) h k = false_true h
tolerance_below (fin true m e) h k =
    let z : 4951760157141521 * 1 * down e ≡ 0 = eqb-true _ _ (and_parts (eqb (4951760157141521 * 1 * down e) (m * up e * 2 ^ 92)) _ h).1 in
    let p : 0 < down e = down_pos e in
    absurd (omega arith)
tolerance_below (fin false m e) h k =
    below_value (fin false m e) one64 1 (refl, refl) (le_trans (fin false m e) coarsest one64 (T_from_true _ k) tt)
tolerance_below _ h k = false_true k

-- ---- the factor: within its bounds for every x, y and record

clamped-within : (q : Float) → (le lowest (clamped q) ≡ true) × (le (clamped q) zero64 ≡ true)
clamped-within q = go (lt q lowest) (le q zero64) refl refl
  where
    go : (a b : Bool) → lt q lowest ≡ a → le q zero64 ≡ b
        → (le lowest (cond a lowest (cond b q zero64)) ≡ true) × (le (cond a lowest (cond b q zero64)) zero64 ≡ true)
    go true b e f = (ends.0, ends.1)
    go false true e f = (lowest_le q e f, f)
    go false false e f = (ends.1, ends.2)

-- The factor used always lies from −5 to 0.
pub factor_within : (x y : Float) (past : History) → (le lowest (factor_of x y past) ≡ true) × (le (factor_of x y past) zero64 ≡ true)
unfolding factor_of
factor_within x y past = go (eq (rise x y past) zero64)
  where
    go : (b : Bool) → let r = cond b zero64 (clamped (div binary64 (sub binary64 y past.y) (rise x y past))) in
        (le lowest r ≡ true) × (le r zero64 ≡ true)
    go true = (ends.1, ends.2)
    go false = clamped-within (div binary64 (sub binary64 y past.y) (rise x y past))

-- Where d is zero nothing is divided: the factor is 0, and next is y.
pub zero_factor : (x y : Float) (past : History) → eq (rise x y past) zero64 ≡ true → factor_of x y past ≡ zero64
unfolding factor_of
zero_factor x y past e = rw e

pub zero_next : (x y : Float) (past : History) (count method : ℕ) → eq (rise x y past) zero64 ≡ true → next_of x y past count method ≡ y
unfolding next_of eq of_bits
zero_next x y past count method e =
    rw (zero_factor x y past e) (either (λ (v : Float). v ≡ y) (eqb method 1 || eqb count 0) refl refl)

factor_below : (q : Float) → le lowest q ≡ true → le q zero64 ≡ true → Below q 5
unfolding mag le lt eq neg of_bits
factor_below (inf false) h k = false_true k
factor_below (fin true m e) h k =
    let z : m * up e * 1 ≤ 5 * 1 * down e = at_most (m * up e * 1) (5 * 1 * down e) _ (λ q. sym (eqb-true _ _ q)) h in at true m e (omega arith)
factor_below (fin false m e) h k =
    below_value (fin false m e) (neg lowest) 5 (refl, refl) (le_trans (fin false m e) zero64 (neg lowest) (T_from_true _ k) tt)
factor_below _ h k = false_true h

-- ---- the quotient

zero_level : (t : Bool) (d : ℤ) → eq (fin t 0 d) zero64 ≡ true
unfolding eq of_bits
zero_level t d =
    let a : eqb (0 * up d * 1) (0 * down d) ≡ true = eq-eqb (0 * up d * 1) (0 * down d) (omega arith) in
    let b : eqb (0 * up d * 1) 0 ≡ true = eq-eqb (0 * up d * 1) 0 (omega arith) in
    rw (a, b) (or_right (beq t false) true refl)

cond_not : (b : Bool) (p q : Float) → cond b p q ≡ cond (not b) q p
cond_not true p q = refl
cond_not false p q = refl

above_zero : (q : Float) → is_nan q ≡ false → cond (le q zero64) q zero64 ≡ cond (lt zero64 q) zero64 q
unfolding is_nan of_bits
above_zero q h =
    cond_not (le q zero64) q zero64 ∙ ap (λ (b : Bool). cond b zero64 q) (not_le q zero64 (T_from_false _ h) tt)

div_number : {a b : Float} {K L : ℕ} → Below a K → Below b L → eq b zero64 ≡ false → is_nan (div binary64 a b) ≡ false
unfolding div eq of_bits
div_number (at s m e p) (at t zero d q) h = true_false (sym (zero_level t d) ∙ h)
div_number (at s m e p) (at t (suc n) d q) h =
    rw (eqb-suc-zero n) (round_number binary64 (unlike s t) (m * up e * down d) (suc n * up d * down e))

-- below −5 taken as −5, above 0 as 0
abbrev pub letter : Float → Float
letter q = cond (lt q lowest) lowest (cond (lt zero64 q) zero64 q)

clamped_letter : (q : Float) → is_nan q ≡ false → clamped q ≡ letter q
clamped_letter q h = ap (λ (r : Float). cond (lt q lowest) lowest r) (above_zero q h)

-- ---- the difference, the allowance, the next value, and the quotient

module _ (x y : Float) (ux : usable x ≡ true) (uy : usable y ≡ true) where
  difference_below : Below (sub binary64 y x) (2 * 10¹²)
  difference_below = sub_below (usable_below y uy) (usable_below x ux) tt

  pub gap_finite : finite (gap_of x y) ≡ true
  unfolding gap_of
  gap_finite = below_finite (below_mag difference_below)

  larger_below : Below (larger (mag x) one64) 10¹²
  unfolding of_bits
  larger_below =
      either (λ (v : Float). Below v 10¹²) (lt (mag x) one64) (at false 1 (pos 0) (omega arith)) (below_mag (usable_below x ux))

  pub allowance_finite : (t : Float) → le finest t ≡ true → le t coarsest ≡ true → finite (mul binary64 t (larger (mag x) one64)) ≡ true
  allowance_finite t h k = below_finite (mul_below (tolerance_below t h k) larger_below tt)

  -- the products and the sum of the next value, whatever the record
  module _ (past : History) where
    factor_small : Below (factor_of x y past) 5
    factor_small = let w = factor_within x y past in factor_below (factor_of x y past) w.0 w.1

    scaled_x : Below (mul binary64 (factor_of x y past) x) (5 * 10¹²)
    scaled_x = mul_below factor_small (usable_below x ux) tt

    scaled_y : Below (mul binary64 (sub binary64 one64 (factor_of x y past)) y) (6 * 10¹²)
    scaled_y = mul_below (sub_below one_below factor_small tt) (usable_below y uy) tt

    pub products_finite : (finite (mul binary64 (factor_of x y past) x) ≡ true)
        × (finite (mul binary64 (sub binary64 one64 (factor_of x y past)) y) ≡ true)
    products_finite = (below_finite scaled_x, below_finite scaled_y)

    -- The next value of usable values is finite.
    pub next_finite : (count method : ℕ) → finite (next_of x y past count method) ≡ true
    unfolding next_of
    next_finite count method =
        let plain = below_finite (usable_below y uy) in
        either (λ (v : Float). finite v ≡ true) (eqb method 1 || eqb count 0) plain
        (either (λ (v : Float). finite v ≡ true) (eq (factor_of x y past) zero64) plain (below_finite (add_below scaled_x scaled_y tt)))

  module _ (past : History) (ok : usable_record past ≡ true) where
    change_below : Below (sub binary64 y past.y) (2 * 10¹²)
    unfolding usable_record
    change_below = sub_below (usable_below y uy) (usable_below past.y (and_parts (usable past.x) (usable past.y) ok).1) tt

    rise_below : Below (rise x y past) (4 * 10¹²)
    unfolding usable_record
    rise_below =
        sub_below change_below (sub_below (usable_below x ux) (usable_below past.x (and_parts (usable past.x) (usable past.y) ok).0) tt) tt

    pub rise_finite : finite (rise x y past) ≡ true
    rise_finite = below_finite rise_below

    -- The quotient of accepted values is a number wherever it is worked out; it may overflow to an infinity, which is clamped.
    pub quotient_number : eq (rise x y past) zero64 ≡ false → is_nan (div binary64 (sub binary64 y past.y) (rise x y past)) ≡ false
    quotient_number = div_number change_below rise_below

    -- The factor in the words of the rule: next is y if d is zero; else q = dy / d, below −5 taken as −5, above 0 as 0.
    pub factor_letter : factor_of x y past
        ≡ cond (eq (rise x y past) zero64) zero64 (letter (div binary64 (sub binary64 y past.y) (rise x y past)))
    unfolding factor_of
    factor_letter = go (eq (rise x y past) zero64) refl
      where
        go : (b : Bool) → eq (rise x y past) zero64 ≡ b → cond b zero64 (clamped (div binary64 (sub binary64 y past.y) (rise x y past)))
            ≡ cond b zero64 (letter (div binary64 (sub binary64 y past.y) (rise x y past)))
        go true e = refl
        go false e = clamped_letter (div binary64 (sub binary64 y past.y) (rise x y past)) (quotient_number e)
