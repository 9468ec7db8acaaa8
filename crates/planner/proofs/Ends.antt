-- What a stream does to the links, to the weights of a block and to its torn streams, by its two ends. Assumes nothing.
use Rattle.std.specs.Prelude.{Bool, true, false, not, ◌≡◌, List, ℕ, ◌+◌, ◌*◌, ◌<◌, ltb, leb, length, get_or, set, Option, Some, None}
use Rattle.std.proofs.Common.{refl}
use Rattle.std.specs.Option.{option_map, option_and_then}
use Rattle.blocks.specs.Links.{linked}
use Rattle.flowsheet.specs.Sheet.{place_of, ends_of}
use Rattle.flowsheet.specs.declared.Stream.{Stream}
use Rattle.flowsheet.proofs.Places.{place_found, ends_found}
use Rattle.planner.specs.Links.{link_at, with_link}
use Rattle.planner.specs.Plan.{charge_at, charged, torn_between, is_torn}
use borrow.Author.Tests.{le-leb, lt-leb, ltb-true, ltb-false}

not_before : (i j : ℕ) → leb j i ≡ not (ltb i j)
not_before i j = go (ltb i j) refl
  where
    go : (t : Bool) → ltb i j ≡ t → leb j i ≡ not t
    go true e = lt-leb j i (ltb-true i j e)
    go false e = le-leb j i (ltb-false i j e)

-- what holds of two places of which one is none
apart : (P : Option ℕ → Option ℕ → Type 0) → ((i : ℕ) → P (Some i) None) → ((q : Option ℕ) → P None q) → (p q : Option ℕ)
    → option_and_then {U = ℕ × ℕ} (λ (k : ℕ). option_map (λ (m : ℕ). (k, m)) q) p ≡ None → P p q
apart P one none (Some i) (Some j) e = absurd (cc)
apart P one none (Some i) None e = one i
apart P one none None q e = none q

module _ (us : List ℕ) (s : Stream) where
  module _ (i j : ℕ) (e : ends_of us s ≡ Some (i, j)) where
    -- both ends stand in the list
    pub ends_held : (i < length us) × (j < length us)
    ends_held =
        let r = ends_found us s i j e in
        ((place_found us s.source i r.0).0, (place_found us s.receiver j r.1).0)

    pub link_both : (t : List ℕ) → linked t i j ≡ with_link us t s
    unfolding with_link
    link_both t = let r = ends_found us s i j e in rw (r.0, r.1)

    pub charge_both : (w : List ℕ) → set w (i * 12 + j) (get_or w (i * 12 + j) 0 + s.weight) ≡ charged us w s
    unfolding charged
    charge_both w = let r = ends_found us s i j e in rw (r.0, r.1)

    pub torn_both : leb j i ≡ is_torn us s
    unfolding is_torn
    torn_both = let r = ends_found us s i j e in rw (r.0, r.1) (not_before i j)

  -- where an end stands elsewhere the stream does nothing
  module _ (e : ends_of us s ≡ None) where
    pub link_apart : (t : List ℕ) → t ≡ with_link us t s
    unfolding with_link ends_of
    link_apart t = apart (λ p q. t ≡ link_at p q t) (λ i. refl) (λ q. refl) (place_of us s.source) (place_of us s.receiver) e

    pub charge_apart : (w : List ℕ) → w ≡ charged us w s
    unfolding charged ends_of
    charge_apart w =
        apart (λ p q. w ≡ charge_at p q s.weight w) (λ i. refl) (λ q. refl) (place_of us s.source) (place_of us s.receiver) e

    pub torn_apart : false ≡ is_torn us s
    unfolding is_torn ends_of
    torn_apart = apart (λ p q. false ≡ torn_between p q) (λ i. refl) (λ q. refl) (place_of us s.source) (place_of us s.receiver) e
