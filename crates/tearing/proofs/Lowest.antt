-- The loop that goes over the members of a set and keeps the lowest of what they are worth, and the first that is worth it: a member is
-- skipped, kept out or taken. Assumes nothing.
use mathlib.Core.Path.{◌≡◌, refl}
use mathlib.Core.Logic.{◌⊎◌, inl, inr, ⊎_elim}
use Prim.Native.Nat.{ℕ, ◌+◌, ◌^◌, ◌<◌, ◌≤◌}
use native.Mathlib.Omega.{arith}
use borrow.Author.Count.{below_more}
use mathlib.Core.List.{List}
use Rattle.sets.specs.Sets.{bit}
use Rattle.tearing.specs.Table.{Room, Lowest, First}
use Rattle.tearing.proofs.Bits.{bit_some}

-- x is the lowest of f over the members of m below j, and u the first of them; or x is still as it was at the start
pub record Min (f : ℕ → ℕ) (m start j x u : ℕ) : Type 0 where
  pub low : (v : ℕ) → v < j → bit v m ≡ 1 → x ≤ f v
  pub at : (x ≡ start) ⊎ ((u < j) × (bit u m ≡ 1) × (x ≡ f u) × ((v : ℕ) → v < u → bit v m ≡ 1 → x < f v))

module _ (f : ℕ → ℕ) (m start : ℕ) where
  pub min_none : (u : ℕ) → Min f m start 0 start u
  min_none u = record { low = λ v h. absurd (omega arith); at = inl refl }

  module _ (j x u : ℕ) (h : Min f m start j x u) where
    grow : (x ≡ start) ⊎ ((u < j) × (bit u m ≡ 1) × (x ≡ f u) × ((v : ℕ) → v < u → bit v m ≡ 1 → x < f v))
        → (x ≡ start) ⊎ ((u < j + 1) × (bit u m ≡ 1) × (x ≡ f u) × ((v : ℕ) → v < u → bit v m ≡ 1 → x < f v))
    grow (inl e) = inl e
    grow (inr s) = inr (omega (arith, s.0), s.1, s.2, s.3)

    pub min_keep : (bit j m ≡ 1 → x ≤ f j) → Min f m start (j + 1) x u
    min_keep e = record { low = below_more (λ (v : ℕ). bit v m ≡ 1 → x ≤ f v) j h.low e; at = grow h.at }

    pub min_take : bit j m ≡ 1 → f j < x → Min f m start (j + 1) (f j) j
    min_take b e =
        record {
          low = below_more (λ (v : ℕ). bit v m ≡ 1 → f j ≤ f v) j (λ v l q. omega (arith, h.low v l q)) (λ q. omega arith);
          at = inr (omega arith, b, refl, λ v l q. omega (arith, h.low v l q));
        }

module _ (f : ℕ → ℕ) (n m : ℕ) (l : List ℕ) (r : Room f n m l) (x u : ℕ) (h : Min f m (2 ^ 32) n x u) where
  -- a set has a member, and what that is worth is below the start
  found : (u < n) × (bit u m ≡ 1) × (x ≡ f u) × ((v : ℕ) → v < u → bit v m ≡ 1 → x < f v)
  found = ⊎_elim start (λ s. s) h.at
    where
      start : x ≡ 2 ^ 32 → (u < n) × (bit u m ≡ 1) × (x ≡ f u) × ((v : ℕ) → v < u → bit v m ≡ 1 → x < f v)
      start e =
          let s = bit_some n m r.set r.some in
          absurd (omega (arith, e, h.low s.0 s.1 s.2, r.fits s.0 s.1 s.2))

  pub min_first : First f n m u
  min_first =
      record {
        below = found.0;
        member = found.1;
        least = λ v g b. omega (arith, found.2, h.low v g b);
        first = λ v g b. omega (arith, found.2, found.3 v g b);
      }

  pub min_is : x ≡ f u
  min_is = found.2

  pub min_fits : x < 2 ^ 32
  min_fits = omega (arith, found.2, r.fits u found.0 found.1)

-- what the first is worth is the lowest
pub first_lowest : {f : ℕ → ℕ} {n m u : ℕ} → First f n m u → Lowest f n m (f u)
first_lowest {u = u} c = record { low = c.least; at = (u, c.below, c.member, refl) }
