-- The table in the working memory: one more entry, and one more place of the order read off it. Assumes nothing.
use mathlib.Core.Path.{◌≡◌, refl, ap, ◌∙◌}
use mathlib.Core.Logic.{inl}
use mathlib.Core.List.{List, [], ◌∷◌, ◌++◌, append-nil, append_assoc}
use Prim.Native.Nat.{ℕ, zero, suc, ◌+◌, ◌*◌, ◌-◌, ◌^◌, ◌<◌, ◌≤◌}
use native.Mathlib.Omega.{arith}
use borrow.Author.Count.{below_more}
use lib.ListN.{length}
use Rattle.words.specs.Words.{with_number}
use Rattle.words.proofs.Numbers.{read_back, read_elsewhere}
use Rattle.tearing.specs.Order.{upto}
use Rattle.tearing.specs.Weight.{into, Best, Least}
use Rattle.sets.specs.Sets.{bit, members}
use Rattle.tearing.specs.Best.{best}
use Rattle.tearing.specs.Table.{entry, Filled, via, Sums, Room, Lowest, First}
use Rattle.tearing.proofs.Lists.{pick-length, length-upto}
use Rattle.tearing.proofs.Bits.{members_zero, members_full, pick-members}
use Rattle.tearing.proofs.Weight.{best_nil, least_nil}
use Rattle.tearing.proofs.Steps.{less_bit, begun-bound, least_step, best_step}
use Rattle.tearing.proofs.Computed.{best-only}

module _ (W : ℕ → ℕ → ℕ) (n : ℕ) where
  pub filled_more : (l : List ℕ) (m x : ℕ) → Filled W n l m → Least W (members n m) x → x < 2 ^ 32 → 4 * m + 4 ≤ length l
      → Filled W n (with_number 4 l (4 * m) x) (m + 1)
  filled_more l m x f h b s =
      below_more (λ (j : ℕ). Least W (members n j) (entry (with_number 4 l (4 * m) x) j)) m
      (λ j g. rw (read_elsewhere 4 l (4 * m) x 4 (4 * j) (inl (omega arith))) (f j g))
      (rw (read_back 4 l (4 * m) x s b) h)

  pub filled_first : (l : List ℕ) → 4 ≤ length l → Filled W n (with_number 4 l 0 0) 1
  filled_first l s =
      filled_more l 0 0 (λ j g. absurd (omega arith)) (rw (members_zero n) (least_nil W)) (omega arith) (omega arith)

-- a set with a member is not the empty set
pub members_pos : (n m : ℕ) → 0 < length (members n m) → 0 < m
members_pos n zero h = absurd (omega (arith, ap length (members_zero n)))
members_pos n (suc m) h = omega arith

nil_of : (l : List ℕ) → length l ≡ 0 → l ≡ []
nil_of [] h = refl
nil_of (x ∷ l) h = absurd (omega arith)

module _ (W : ℕ → ℕ → ℕ) (n : ℕ) (low high l : List ℕ) (s : Sums W n low high) (m : ℕ) (h : m < 2 ^ n) (f : Filled W n l m) where
  via_is : (u : ℕ) → u < n → via low high l m u ≡ into W u (members n m) + entry l (m - 2 ^ u)
  via_is u g = omega (arith, s.flows m u h g)

  rest : (v : ℕ) → v < n → bit v m ≡ 1 → Least W (members n (m - 2 ^ v)) (entry l (m - 2 ^ v))
  rest v g b = f (m - 2 ^ v) (less_bit m v b)

  -- a step of the table has room
  pub room : 0 < m → 4 * 2 ^ n ≤ length l → Room (via low high l m) n m l
  room q r =
      record {
        some = q;
        set = h;
        memory = r;
        fits = λ u g b.
            omega (arith, via_is u g, begun-bound W n m (λ v. entry l (m - 2 ^ v)) rest u g b, s.small);
      }

  low_of : (u : ℕ) → u < n → ((v : ℕ) → v < n → bit v m ≡ 1 → via low high l m u ≤ via low high l m v) → (v : ℕ) → v < n → bit v m ≡ 1
      → into W u (members n m) + entry l (m - 2 ^ u) ≤ into W v (members n m) + entry l (m - 2 ^ v)
  low_of u g low v k b = omega (arith, via_is u g, via_is v k, low v k b)

  -- the lowest of the steps is the least of the set
  pub lowest_least : {x : ℕ} → Lowest (via low high l m) n m x → Least W (members n m) x
  lowest_least {x} c =
      let u = c.at.0 in
      let g = c.at.1 in
      let e : x ≡ into W u (members n m) + entry l (m - 2 ^ u) = c.at.3 ∙ via_is u g in
      rw e
      (least_step W n m (λ v. entry l (m - 2 ^ v)) rest u g c.at.2 (low_of u g (λ v k b. omega (arith, c.low v k b, c.at.3))))

  -- the first of the lowest begins the best order
  pub first-best : {u : ℕ} (o : List ℕ) → First (via low high l m) n m u → Best W (members n (m - 2 ^ u)) o → Best W (members n m) (u ∷ o)
  first-best {u} o c b =
      let g = c.below in
      best_step W n m (λ v. entry l (m - 2 ^ v)) rest u g c.member (low_of u g c.least)
      (λ v k d. omega (arith, via_is u g, via_is v (omega arith), c.first v k d))
      o b

-- what is still to be shown of the places after those that are read
abbrev pub Goes : (ℕ → ℕ → ℕ) → ℕ → ℕ → List ℕ → Type 0
Goes W n m read = (o : List ℕ) → Best W (members n m) o → Best W (upto n) (read ++ o)

module _ (W : ℕ → ℕ → ℕ) (n : ℕ) where
  pub goes_start : Goes W n (2 ^ n - 1) []
  goes_start o b = rw (members_full n n (omega arith)) at b

  pub goes_more : (low high l : List ℕ) (m : ℕ) (read : List ℕ) (u : ℕ) → m < 2 ^ n → Sums W n low high → Filled W n l (2 ^ n)
      → First (via low high l m) n m u → Goes W n m read → Goes W n (m - 2 ^ u) (read ++ (u ∷ []))
  goes_more low high l m read u q s f c g o b =
      let r = g (u ∷ o) (first-best W n low high l s m q (λ j k. f j (omega arith)) o c b) in
      rw append_assoc r

  pub goes_end : (m : ℕ) (read : List ℕ) → length (members n m) ≡ 0 → Goes W n m read → read ≡ best W n
  goes_end m read e g = best-only W n (rw (append-nil read) at (g [] (rw (nil_of (members n m) e) (best_nil W))))

pub fewer : (n m u : ℕ) → u < n → bit u m ≡ 1 → length (members n m) ≡ length (members n (m - 2 ^ u)) + 1
fewer n m u h b = omega (arith, pick-length (pick-members n m u h b))

pub members-all : (n : ℕ) → length (members n (2 ^ n - 1)) ≡ n
members-all n = rw (members_full n n (omega arith)) (length-upto n)
