use Rattle.std.proofs.Common.{arith}
use Rattle.std.proofs.lemmas.List.{length-replicate}
use Rattle.rows.proofs.Rows.{padded_none}
use Rattle.rows.proofs.Row.new.Goals as goal

pub invariant_of-result : goal.invariant_of-result
invariant_of-result g c = rw c.blank.ensures (omega arith, length-replicate _ _, padded_none _ _)
