-- A next value stands for each value that was passed.
use Rattle.std.proofs.Common.{◌≡◌, map}
use Rattle.converge.specs.Answer.{method_number}
use Rattle.converge.proofs.Rows.{next_at}
use Rattle.converge.proofs.push_nexts.Given as goal

abbrev pub invariant-loop-x : goal.invariant-loop-x
invariant-loop-x l = l.nexts ≡ map (λ p. next_at l.count (method_number l.method) ((p.0.0.now, p.0.1.now), p.1.now)) l.yielded
