-- A place that isn't in the set has the digit 0 there. Assumes nothing.
use Rattle.std.proofs.Common.{arith}
use Rattle.std.proofs.lemmas.Bool.Decides.{nat_tests}
use Rattle.sets.proofs.Sets.{bit_lt}
use Rattle.blocks.proofs.is_free.Goals as goal

pub returns-then-not-has : goal.returns-then-not-has
returns-then-not-has c = let l = bit_lt c.args.place c.args.placed in grind (arith, nat_tests, l)
