-- A pattern above that of an infinity, its sign aside, is a NaN's, and no other is.
use Rattle.std.proofs.Common.{Bool, sym, ◌∙◌, subst}
use mathlib.Core.Bool.{not}
use borrow.Author.Tests.{lt-ltb, le-ltb}
use lib.Dec.{T}
use lib.Ieee.{binary64}
use lib.Ieee.Bits.{nan_bits_is, nan_bits_above}
use Rattle.najmudhil.proofs.Patterns.{is_nan_lem, zero_over_zero}
use Rattle.najmudhil.proofs.of_pattern.Goals as goal

pub returns-then-bits-gt9218868437227405312 : goal.returns-then-bits-gt9218868437227405312
returns-then-bits-gt9218868437227405312 c =
    let bits = c.args.bits in
    zero_over_zero ∙ sym (is_nan_lem _ (sym (nan_bits_is binary64 bits) ∙ nan_bits_above binary64 bits ∙ lt-ltb _ _ c.if-bits-gt9218868437227405312.true))

pub float_from_bits-result : goal.float_from_bits-result
float_from_bits-result c =
    subst (λ (t : Bool). T (not t)) (sym (nan_bits_above binary64 c.args.bits ∙ le-ltb _ _ c.if-bits-gt9218868437227405312.false)) tt
