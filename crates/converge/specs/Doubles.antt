-- The decimals that the rules of a step set against doubles, each as the bits of the double nearest to it, and the size of a double.
use Rattle.std.specs.Prelude.{Bool, false, cond, Float}
use Rattle.std.specs.Float.{nan, inf, fin, binary64}
use Rattle.std.specs.Float.Ieee.{of_bits, neg, lt, le}

-- 0.0
abbrev pub zero64 : Float
zero64 = of_bits binary64 0

-- 1.0
abbrev pub one64 : Float
one64 = of_bits binary64 0x3ff0_0000_0000_0000

-- -5.0
abbrev pub lowest : Float
lowest = neg (of_bits binary64 0x4014_0000_0000_0000)

-- 1e12
abbrev pub bound : Float
bound = of_bits binary64 0x426d_1a94_a200_0000

-- 1e-12
abbrev pub finest : Float
finest = of_bits binary64 0x3d71_9799_812d_ea11

-- 0.1
abbrev pub coarsest : Float
coarsest = of_bits binary64 0x3fb9_9999_9999_999a

-- |v| is v with its sign bit cleared.
unfoldable pub mag : Float → Float
mag nan = nan
mag (inf s) = inf false
mag (fin s m e) = fin false m e

-- The larger of two.
abbrev pub larger : Float → Float → Float
larger a b = cond (lt a b) b a

-- Finite, and not beyond 1e12 in size: at an infinity and where there is no number the comparison fails.
unfoldable pub usable : Float → Bool
usable v = le (mag v) bound

-- Beyond 1e12 in size.
unfoldable pub beyond : Float → Bool
beyond v = lt bound (mag v)
