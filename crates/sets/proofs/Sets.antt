-- A digit of a set is 0 or 1, and is what is left of the set shifted down to it. Assumes nothing.
use Rattle.std.proofs.Common.{◌≡◌, ℕ, zero, suc, ◌/◌, ◌%◌, ◌^◌, ◌<◌, sym, ap, arith}
use native.Mathlib.Nat.{pow-succ', div-one, div-div-eq-div-mul}
use Rattle.sets.specs.Sets.{bit}

pub bit_lt : (j m : ℕ) → bit j m < 2
bit_lt zero m = omega arith
bit_lt (suc j) m = bit_lt j (m / 2)

pub bit_shr : (j m : ℕ) → bit j m ≡ m / 2 ^ j % 2
bit_shr zero m = ap (λ (x : ℕ). x % 2) (sym (div-one m))
bit_shr (suc j) m = rw (pow-succ' 2 j, ← div-div-eq-div-mul m 2 (2 ^ j)) (bit_shr j (m / 2))
