-- A NaN has the one pattern.
use Rattle.std.proofs.Common.{sym, ◌∙◌, ap}
use lib.Ieee.{binary64, to_bits}
use Rattle.najmudhil.proofs.Patterns.{is_nan_lem}
use Rattle.najmudhil.proofs.pattern.Goals as goal

pub returns-then-is_nan : goal.returns-then-is_nan
unfolding to_bits
returns-then-is_nan c = ap (to_bits binary64) (sym (is_nan_lem _ (sym c.is_nan.ensures.value ∙ c.if-is_nan.true)))
