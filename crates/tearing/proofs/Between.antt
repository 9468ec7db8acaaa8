-- What two tables of sums say of the weights between the places: the tables hold the sums of these, whatever weights they were made of, and on
-- the places below n these are the weights they were made of. Assumes nothing.
use mathlib.Core.Path.{◌≡◌, sym, ◌∙◌}
use mathlib.Core.List.{List}
use Prim.Native.Nat.{ℕ, suc, ◌^◌, ◌<◌, ◌≤◌}
use native.Mathlib.Nat.{pow-succ'}
use native.Mathlib.Omega.{arith}
use lib.Pow.{pow_mono, pow_pos}
use Rattle.sets.specs.Sets.{members}
use Rattle.tearing.specs.Order.{upto}
use Rattle.tearing.specs.Weight.{into, all}
use Rattle.tearing.specs.Best.{best}
use Rattle.tearing.specs.Table.{between, Sums}
use Rattle.tearing.proofs.Lists.{Each, each_map, upto_below, sum_agree}
use Rattle.tearing.proofs.Bits.{members_pow, members_below}
use Rattle.tearing.proofs.Chosen.{best_agree}

module _ (W : ℕ → ℕ → ℕ) (n : ℕ) (low high : List ℕ) (s : Sums W n low high) where
  between_is : (i j : ℕ) → i < n → j < n → between low high i j ≡ W i j
  between_is i j h k =
      let m : 2 ^ suc i ≤ 2 ^ n = pow_mono (omega arith) in
      s.flows (2 ^ i) j (omega (arith, m, pow-succ' 2 i, pow_pos i)) k ∙ members_pow (λ w. W w j) n i h

  -- what goes into a place from places below n
  into_is : (u : ℕ) (S : List ℕ) → u < n → Each (λ x. x < n) S → into (between low high) u S ≡ into W u S
  into_is u S h e =
      sum_agree (λ w. between low high w u) (λ w. W w u) S
      (each_map (λ x. x < n) (λ x. between low high x u ≡ W x u) S (λ x l. between_is x u l h) e)

  pub sums_between : Sums (between low high) n low high
  sums_between =
      let e : all (between low high) (upto n) (upto n) ≡ all W (upto n) (upto n) =
      sum_agree (λ u. into (between low high) u (upto n)) (λ u. into W u (upto n)) (upto n)
      (each_map (λ x. x < n) (λ x. into (between low high) x (upto n) ≡ into W x (upto n)) (upto n)
      (λ x l. into_is x (upto n) l (upto_below n))
      (upto_below n)) in
      record {
        flows = λ m u h k. s.flows m u h k ∙ sym (into_is u (members n m) k (members_below n m));
        small = rw e s.small;
      }

  pub best_between : best (between low high) n ≡ best W n
  best_between = best_agree (between low high) W n between_is
