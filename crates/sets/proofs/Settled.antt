-- What the two functions answer is settled: two results that a statement allows are equal. Assumes nothing.
use Rattle.std.proofs.Common.{◌≡◌, ◌==◌, ◌^◌, ℕ, Bool, sym, ◌∙◌}
use Rattle.sets.specs.Sets.{bit}

pub has_settled : (set place : ℕ) (r s : Bool) → r ≡ (bit place set == 1) → s ≡ (bit place set == 1) → r ≡ s
has_settled set place r s p q = p ∙ sym q

pub one_settled : (place r s : ℕ) → r ≡ 2 ^ place → s ≡ 2 ^ place → r ≡ s
one_settled place r s p q = p ∙ sym q
