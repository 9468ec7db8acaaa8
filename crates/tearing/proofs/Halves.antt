-- The two tables of sums. A set with one place more has that place's streams added, and a set of twelve places is one of the low six with
-- one of the high six. Assumes nothing.
use mathlib.Core.Path.{◌≡◌, refl, sym, ap, ◌∙◌}
use mathlib.Core.Logic.{◌≢◌}
use mathlib.Core.List.{List}
use Prim.Native.Nat.{ℕ, ◌+◌, ◌*◌, ◌-◌, ◌/◌, ◌%◌, ◌^◌, ◌<◌, ◌≤◌, min}
use native.Mathlib.Omega.{arith}
use native.Mathlib.Nat.{mul-add, mul-zero, mul_comm, add_comm}
use native.Mathlib.Decide.{dec_lt}
use lib.Pow.{pow-add, pow_pos, pow_mono, shl_lt}
use borrow.Author.Count.{below_more}
use lib.ListN.{length, get_or, set, replicate, get_or-replicate, length-set}
use lib.Seq.{get_or-set_same, get_or-set_other}
use Rattle.tearing.specs.Order.{upto}
use Rattle.tearing.specs.Weight.{into}
use Rattle.tearing.specs.Row.{weights, total}
use Rattle.sets.specs.Sets.{members}
use Rattle.tearing.specs.Table.{Summed, Doubled, flow, Sums}
use Rattle.tearing.proofs.Lists.{sum-upto}
use Rattle.tearing.proofs.Bits.{members_zero, members-beyond, members_join, members_pow, members_most}
use Rattle.tearing.proofs.Total.{all-total}

pub summed_none : (W : ℕ → ℕ → ℕ) (from c : ℕ) → 12 ≤ c → Summed W from (replicate c 0) 12
summed_none W from c h k l =
    let z : 2 ^ from * (k / 12) ≡ 0 = ap (λ (x : ℕ). 2 ^ from * x) (low k l) ∙ mul-zero (2 ^ from) in
    get_or-replicate {A = ℕ} c k 0 0 (omega arith)
    ∙ sym (ap (λ (x : ℕ). into W (k % 12) (members 12 x)) z ∙ ap (λ (S : List ℕ). into W (k % 12) S) (members_zero 12))
  where
    low : (x : ℕ) → x < 12 → x / 12 ≡ 0
    low x g = omega arith

-- the sums of a set and of the same with one place more
into_more : (W : ℕ → ℕ → ℕ) (from j i u : ℕ) → i < 2 ^ j → from + j < 12
    → into W u (members 12 (2 ^ from * (2 ^ j + i))) ≡ into W u (members 12 (2 ^ from * i)) + W (from + j) u
into_more W from j i u h l =
    let p = pow-add 2 from j in
    let e : 2 ^ from * (2 ^ j + i) ≡ 2 ^ from * i + 2 ^ (from + j) * 1 = omega (arith, mul-add (2 ^ from) (2 ^ j) i, p) in
    let g : 2 ^ from * i < 2 ^ (from + j) = omega (arith, shl_lt j from h, mul_comm (2 ^ from) i, ap (λ (x : ℕ). 2 ^ x) (add_comm from j)) in
    let one : 2 ^ (from + j) * 1 ≡ 2 ^ (from + j) = omega arith in
    rw e
    (omega (
      arith,
      members_join (λ w. W w u) 12 (from + j) (2 ^ from * i) 1 g,
      ap (λ (x : ℕ). into W u (members 12 x)) one,
      members_pow (λ w. W w u) 12 (from + j) l,
    ))

-- the loop that adds the sums with one place more
module _ (w : List ℕ) (place size : ℕ) (old : List ℕ) where
  pub doubled_none : Doubled w place size 0 old old
  doubled_none = record { long = refl; kept = λ k h. refl; added = λ k h. absurd (omega arith) }

  pub doubled_more : (k : ℕ) (new : List ℕ) → k < size → size + k < length new → Doubled w place size k old new
      → Doubled w place size (k + 1) old (set new (size + k) (get_or new k 0 + get_or w (place * 12 + k % 12) 0))
  doubled_more k new h l d =
      record {
        long = length-set new (size + k) x ∙ d.long;
        kept = λ i g. other i (λ (e : i ≡ size + k). omega arith) ∙ d.kept i g;
        added = below_more (λ (i : ℕ). get_or (set new (size + k) x) (size + i) 0 ≡ get_or old i 0 + get_or w (place * 12 + i % 12) 0) k
            (λ i g. other (size + i) (λ (e : size + i ≡ size + k). omega arith) ∙ d.added i g)
            (get_or-set_same new (size + k) x 0 l ∙ omega (arith, d.kept k h));
      }
    where
      x : ℕ
      x = get_or new k 0 + get_or w (place * 12 + k % 12) 0

      other : (i : ℕ) → i ≢ size + k → get_or (set new (size + k) x) i 0 ≡ get_or new i 0
      other i n = get_or-set_other new (size + k) i x 0 n

-- what goes into a place from a set is part of all there is
into_total : (w : List ℕ) (n m u : ℕ) → n ≤ 12 → u < n → into (weights w) u (members n m) ≤ total w
into_total w n m u h l =
    omega (
      arith,
      members_most (λ i. weights w i u) n m,
      sum-upto (λ v. into (weights w) v (upto n)) n u l,
      all-total w n h,
    )

module _ (w : List ℕ) (from j place size : ℕ) (at : place ≡ from + j) (few : place < 12) (is : size ≡ 12 * 2 ^ j) (old : List ℕ) (sums : Summed (weights w) from old size) where
  -- one place more, at the number k of the table
  one_more : (k : ℕ) → k < size
      → into (weights w) (k % 12) (members 12 (2 ^ from * (2 ^ j + k / 12))) ≡ get_or old k 0 + get_or w (place * 12 + k % 12) 0
  one_more k h =
      omega (
        arith,
        into_more (weights w) from j (k / 12) (k % 12) (omega arith) (omega arith),
        sums k h,
        ap (λ (p : ℕ). get_or w (p * 12 + k % 12) 0) at,
      )

  -- it fits
  pub doubled_fits : total w < 2 ^ 32 → (k : ℕ) → k < size → get_or old k 0 + get_or w (place * 12 + k % 12) 0 < 2 ^ 32
  doubled_fits t k h =
      omega (arith, one_more k h, into_total w 12 (2 ^ from * (2 ^ j + k / 12)) (k % 12) (omega arith) (omega arith))

  pub summed_more : (new : List ℕ) → Doubled w place size size old new → Summed (weights w) from new (size * 2)
  summed_more new d k h = elim (dec_lt k size) [ yes l ↦ (d.kept k l ∙ sums k l) | no f ↦ again (k - size) (omega arith) (omega arith) ]
    where
      again : (i : ℕ) → i < size → k ≡ size + i → get_or new k 0 ≡ into (weights w) (k % 12) (members 12 (2 ^ from * (k / 12)))
      again i l e =
          let a : k % 12 ≡ i % 12 = omega arith in
          let b : k / 12 ≡ 2 ^ j + i / 12 = omega arith in
          rw (a, b, e) (d.added i l ∙ sym (one_more i l))

-- the two tables hold the sums of every set
module _ (w : List ℕ) (n : ℕ) (few : n ≤ 12) (low high : List ℕ) (a : Summed (weights w) 0 low (12 * 2 ^ min n 6)) (b : Summed (weights w) 6 high (12 * 2 ^ (n - 6))) where
  low_set : (m : ℕ) → m < 2 ^ n → m % 64 < 2 ^ min n 6
  low_set m h = elim (dec_lt n 6) [
    | yes l ↦ (let e : min n 6 ≡ n = omega arith in rw e (omega arith))
    | no f ↦ (let e : min n 6 ≡ 6 = omega arith in rw e (omega arith))
  ]

  high_set : (m : ℕ) → m < 2 ^ n → m / 64 < 2 ^ (n - 6)
  high_set m h = elim (dec_lt n 6) [
    | yes l ↦ (let p : 2 ^ n ≤ 2 ^ 6 = pow_mono {j = 6} (omega arith) in omega (arith, pow_pos (n - 6)))
    | no f ↦ (let e : n ≡ n - 6 + 6 = omega arith in omega (arith, ap (λ (x : ℕ). 2 ^ x) e, pow-add 2 (n - 6) 6))
  ]

  low_sum : (m u : ℕ) → m < 2 ^ n → u < 12 → get_or low (m % 64 * 12 + u) 0 ≡ into (weights w) u (members 12 (m % 64))
  low_sum m u h g =
      let k = m % 64 * 12 + u in
      let q : k % 12 ≡ u = omega arith in
      let d : 2 ^ 0 * (k / 12) ≡ m % 64 = omega arith in
      rw (q, d) at (a k (omega (arith, low_set m h)))

  high_sum : (m u : ℕ) → m < 2 ^ n → u < 12 → get_or high (m / 64 * 12 + u) 0 ≡ into (weights w) u (members 12 (2 ^ 6 * (m / 64)))
  high_sum m u h g =
      let k = m / 64 * 12 + u in
      let q : k % 12 ≡ u = omega arith in
      let d : k / 12 ≡ m / 64 = omega arith in
      rw (q, d) at (b k (omega (arith, high_set m h)))

  flows : (m u : ℕ) → m < 2 ^ n → u < n → flow low high m u ≡ into (weights w) u (members n m)
  flows m u h g =
      let e : m % 64 + 2 ^ 6 * (m / 64) ≡ m = omega arith in
      omega (
        arith,
        low_sum m u h (omega arith),
        high_sum m u h (omega arith),
        members_join (λ i. weights w i u) 12 6 (m % 64) (m / 64) (omega arith),
        ap (λ (x : ℕ). into (weights w) u (members 12 x)) e,
        ap (λ (S : List ℕ). into (weights w) u S) (members-beyond n 12 m h few),
      )

  pub sums : total w < 2 ^ 32 → Sums (weights w) n low high
  sums t = record { flows = flows; small = omega (arith, all-total w n few) }
