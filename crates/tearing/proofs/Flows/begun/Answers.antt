-- The rest of the set is the set less the digit of its member u, which is no more than the set.
use Rattle.std.proofs.Common.{arith}
use Rattle.tearing.proofs.Bits.{bit_le}
use Rattle.tearing.proofs.Flows.begun.Goals as goal

pub overflow_sub-rest : goal.overflow_sub-rest
overflow_sub-rest c = omega (arith, c.one.ensures, bit_le c.args.u c.args.set c.requires.within.2)
