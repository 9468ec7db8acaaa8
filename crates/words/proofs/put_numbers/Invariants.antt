-- The numbers passed are stored one after the other.
use Rattle.std.proofs.Common.{◌≡◌, take}
use Rattle.words.specs.Words.{with_numbers}
use Rattle.words.proofs.put_numbers.Given as goal

abbrev pub invariant-loop-i : goal.invariant-loop-i
invariant-loop-i l = l.row ≡ with_numbers l.initial.row l.at (take l.i l.numbers)
