-- The rules for one value, in doubles: one rounding for each operation, in the order written.
use Rattle.std.specs.Prelude.{Bool, cond, ◌&&◌, ◌||◌, ℕ, eqb, Float}
use Rattle.std.specs.Float.{binary64}
use Rattle.std.specs.Float.Ieee.{add, sub, mul, div, lt, le, eq}
use Rattle.converge.specs.Doubles.{zero64, one64, lowest, mag, larger, usable}
use Rattle.converge.specs.declared.History.{History}

-- |y − x|
unfoldable pub gap_of : Float → Float → Float
gap_of x y = mag (sub binary64 y x)

-- A value is close if |y − x| ≤ tolerance × m, where m is the larger of |x| and 1.
unfoldable pub close : Float → Float → Float → Bool
close x y tolerance = le (gap_of x y) (mul binary64 tolerance (larger (mag x) one64))

-- Below −5 taken as −5, above 0 as 0. What is no number would count as 0 too: it never arises from accepted values.
abbrev pub clamped : Float → Float
clamped q = cond (lt q lowest) lowest (cond (le q zero64) q zero64)

-- With dx = x − x', dy = y − y' (primes: the record) and d = dy − dx.
abbrev pub rise : Float → Float → History → Float
rise x y past = sub binary64 (sub binary64 y past.y) (sub binary64 x past.x)

-- q = dy / d, clamped. Where d is zero nothing is divided, and the factor is 0, at which next is y.
unfoldable pub factor_of : Float → Float → History → Float
factor_of x y past =
    cond (eq (rise x y past) zero64) zero64 (clamped (div binary64 (sub binary64 y past.y) (rise x y past)))

-- Next is y if q is zero of either sign, else (q × x) + ((1 − q) × y).
abbrev pub mixed : Float → Float → Float → Float
mixed q x y = cond (eq q zero64) y (add binary64 (mul binary64 q x) (mul binary64 (sub binary64 one64 q) y))

-- Method 1, or count 0: next is y. Method 2: by the factor.
unfoldable pub next_of : Float → Float → History → ℕ → ℕ → Float
next_of x y past count method = cond (eqb method 1 || eqb count 0) y (mixed (factor_of x y past) x y)

-- Both values of a record are finite and not beyond 1e12.
unfoldable pub usable_record : History → Bool
usable_record past = usable past.x && usable past.y
