-- Doubles and their bit patterns, where the kit's library has no such law. Assumes nothing.
use mathlib.Core.Bool.{true}
use mathlib.Core.Path.{◌≡◌, refl, sym, subst}
use lib.Dec.{T}
use lib.Ieee.{Float, nan, binary64, of_bits, div, is_nan}
use Rattle.converge.specs.Doubles.{zero64}

pub is_nan_lem : (v : Float) → is_nan v ≡ true → v ≡ nan
unfolding is_nan
is_nan_lem nan h = refl
is_nan_lem _ h = absurd (subst T (sym h) tt)

pub zero_over_zero : div binary64 zero64 zero64 ≡ nan
unfolding div of_bits
zero_over_zero = refl
