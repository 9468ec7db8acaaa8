-- Each public function's statement settles its answer: two results that it allows are equal. Only `link` writes to what it is lent.
-- Assumes nothing.
use mathlib.Core.Path.{◌≡◌, sym, ◌∙◌}
use mathlib.Core.HLevel.{is_prop→PathP}
use mathlib.Core.List.{List}
use Prim.Native.Nat.{ℕ, ◌≤◌}
use Rattle.std.specs.Coded.{le_prop}
use Rattle.blocks.specs.Links.{linked}
use Rattle.blocks.specs.Reach.{reach_of}
use Rattle.blocks.specs.Blocks.{members_of}
use Rattle.blocks.specs.Order.{order_of}
use Rattle.blocks.specs.declared.Reach.{Reach}

-- the fact that the struct holds beside its numbers has one proof
pub reach_settled : (links : List ℕ) (places : ℕ) (r s : Reach) → (r.rows ≡ reach_of links) × (r.places ≡ places)
    → (s.rows ≡ reach_of links) × (s.places ≡ places) → r ≡ s
reach_settled links places r s p q =
    let rows : r.rows ≡ s.rows = p.0 ∙ sym q.0 in
    let many : r.places ≡ s.places = p.1 ∙ sym q.1 in
    λ i. record {
      rows = rows i;
      places = many i;
      within = is_prop→PathP (λ i. many i ≤ 64) (λ i. le_prop) r.within s.within i;
    }

pub members-settled : (t : List ℕ) (n place : ℕ) (r s : List ℕ) → r ≡ members_of t n place → s ≡ members_of t n place → r ≡ s
members-settled t n place r s p q = p ∙ sym q

pub order_settled : (t : List ℕ) (n : ℕ) (r s : List ℕ) → r ≡ order_of t n → s ≡ order_of t n → r ≡ s
order_settled t n r s p q = p ∙ sym q

pub link_settled : (t : List ℕ) (i j : ℕ) (r s : List ℕ) → r ≡ linked t i j → s ≡ linked t i j → r ≡ s
link_settled t i j r s p q = p ∙ sym q
