-- The total of a row of weights, and that it bounds all weights between places below twelve: these are the numbers of the row, a place's
-- twelve after those of the place before it. Assumes nothing.
use mathlib.Core.Path.{◌≡◌, refl, ap, ◌∙◌}
use mathlib.Core.List.{List, [], ◌∷◌}
use Prim.Native.Nat.{ℕ, zero, suc, ◌+◌, ◌*◌, ◌-◌, ◌<◌, ◌≤◌}
use native.Mathlib.Omega.{arith}
use lib.ListN.{length, get_or, set, replicate}
use Rattle.tearing.specs.Order.{upto, sum_over}
use Rattle.tearing.specs.Weight.{into, all}
use Rattle.tearing.specs.Row.{weights, total}
use Rattle.tearing.proofs.Lists.{sum-append, sum_add, sum_same, sum_zero}

pub total_none : (n : ℕ) → total (replicate n 0) ≡ 0
unfolding total
total_none zero = refl
total_none (suc n) = omega (arith, total_none n)

-- a number of the row that is written takes the place of the one that stood there
pub total-set : (w : List ℕ) (i x : ℕ) → i < length w → total (set w i x) + get_or w i 0 ≡ total w + x
unfolding total
total-set [] i x h = absurd (omega arith)
total-set (y ∷ w) zero x h = omega arith
total-set (y ∷ w) (suc i) x h = omega (arith, total-set w i x (omega arith))

-- so a weight that is added to a number of the row is added to the total
pub total_add : (w : List ℕ) (i x : ℕ) → i < length w → total (set w i (get_or w i 0 + x)) ≡ total w + x
total_add w i x h = omega (arith, total-set w i (get_or w i 0 + x) h)

-- the first k numbers of the row
abbrev front : List ℕ → ℕ → ℕ
front w zero = 0
front w (suc k) = front w k + get_or w k 0

front_cons : (y : ℕ) (w : List ℕ) (k : ℕ) → front (y ∷ w) (suc k) ≡ y + front w k
front_cons y w zero = omega arith
front_cons y w (suc k) = omega (arith, front_cons y w k)

front_none : (k : ℕ) → front [] k ≡ 0
front_none zero = refl
front_none (suc k) = omega (arith, front_none k)

front_total : (w : List ℕ) (k : ℕ) → front w k ≤ total w
unfolding total
front_total [] k = omega (arith, front_none k)
front_total (y ∷ w) zero = omega arith
front_total (y ∷ w) (suc k) = omega (arith, front_cons y w k, front_total w k)

front_mono : (w : List ℕ) (i d : ℕ) → front w i ≤ front w (d + i)
front_mono w i zero = omega (arith, ap (front w) (add_left i))
  where
    add_left : (x : ℕ) → 0 + x ≡ x
    add_left x = omega arith
front_mono w i (suc d) = omega (arith, front_mono w i d, ap (front w) (add_left d i))
  where
    add_left : (x y : ℕ) → suc x + y ≡ suc (x + y)
    add_left x y = omega arith

-- a place's part of the row
row_sum : (w : List ℕ) (i b : ℕ) → front w (i * 12) + sum_over (λ j. weights w i j) (upto b) ≡ front w (i * 12 + b)
row_sum w i zero = omega (arith, ap (front w) (add_right (i * 12)))
  where
    add_right : (x : ℕ) → x + 0 ≡ x
    add_right x = omega arith
row_sum w i (suc b) =
    rw (sum-append (λ j. weights w i j) (upto b) (b ∷ []))
    (omega (arith, row_sum w i b, ap (front w) (add_right (i * 12) b)))
  where
    add_right : (x y : ℕ) → x + suc y ≡ suc (x + y)
    add_right x y = omega arith

rows_sum : (w : List ℕ) (a b : ℕ) → b ≤ 12 → all (weights w) (upto b) (upto a) ≤ front w (a * 12)
rows_sum w zero b h = omega (arith, sum_zero (upto b))
rows_sum w (suc a) b h =
    let split = sum_same (λ u. into (weights w) u (upto (suc a))) (λ u. into (weights w) u (upto a) + weights w a u) (upto b)
    (λ u. sum-append (λ i. weights w i u) (upto a) (a ∷ []) ∙ omega arith) in
    let parts = sum_add (λ u. into (weights w) u (upto a)) (λ u. weights w a u) (upto b) in
    omega (
      arith,
      split,
      parts,
      rows_sum w a b h,
      row_sum w a b,
      front_mono w (a * 12 + b) (12 - b),
      ap (front w) (step a b h),
    )
  where
    step : (x y : ℕ) → y ≤ 12 → 12 - y + (x * 12 + y) ≡ suc x * 12
    step x y l = omega arith

pub all-total : (w : List ℕ) (n : ℕ) → n ≤ 12 → all (weights w) (upto n) (upto n) ≤ total w
all-total w n h = omega (arith, rows_sum w n n h, front_total w (n * 12))
