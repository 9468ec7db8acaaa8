-- The table of links is exact, in places and in unit numbers: a link is a stream between two units, so paths and blocks of places are
-- paths and blocks of units. Assumes nothing.
use mathlib.Core.List.Memᴰ
use mathlib.Core.List.{List, [], ◌∷◌, Memᴰ}
use mathlib.Core.Logic.{◌⊎◌, inl, inr, ⊎_elim, ◌↔◌}
use mathlib.Core.Path.{◌≡◌, refl, sym, ap, ◌∙◌, subst}
use Prim.Native.Nat.{ℕ, ◌^◌, ◌<◌, ◌≤◌}
use native.Mathlib.Omega.{arith}
use lib.Bits.{bit_or}
use lib.ListN.{length, get_or, replicate, length-set, length-replicate}
use Rattle.blocks.specs.Links.{Link, SameBlock}
use Rattle.flowsheet.specs.Good.{Good}
use Rattle.flowsheet.specs.Sheet.{place_of}
use Rattle.std.specs.Prelude.{Option, Some, None}
use Rattle.flowsheet.specs.declared.Stream.{Stream}
use Rattle.blocks.proofs.Links.{link_none, link_more}
use Rattle.blocks.proofs.Paths.{same_map}
use Rattle.flowsheet.proofs.Good.{rising}
use Rattle.flowsheet.proofs.Places.{place_found}
use Rattle.tearing.proofs.Lists.{Distinct}
use Rattle.planner.specs.Demand2.{Rises, Feeds}
use Rattle.planner.specs.Links.{link_at, with_link, with_links, links_of}
use Rattle.planner.proofs.Found.{mem_found, place_is, place_number, at_same}
use Rattle.planner.proofs.Members.{mem_at, rises_at, rises_distinct}

-- ---- in places

-- the stream s runs from place i to place j
abbrev pub Runs : List ℕ → Stream → ℕ → ℕ → Type 0
Runs us s i j = (place_of us s.source ≡ Some i) × (place_of us s.receiver ≡ Some j)

-- some stream of ss does
abbrev pub Streamed : List ℕ → List Stream → ℕ → ℕ → Type 0
Streamed us ss i j = (s : Stream) × Memᴰ s ss × Runs us s i j

length_at : (p q : Option ℕ) (t : List ℕ) → length (link_at p q t) ≡ length t
length_at (Some i) (Some j) t = length-set t i (bit_or (get_or t i 0) (2 ^ j))
length_at (Some i) None t = refl
length_at None q t = refl

pub length_link : (us t : List ℕ) (s : Stream) → length (with_link us t s) ≡ length t
unfolding with_link
length_link us t s = length_at (place_of us s.source) (place_of us s.receiver) t

at_exact : (p q : Option ℕ) (t : List ℕ) → ((i : ℕ) → p ≡ Some i → i < length t) → (a b : ℕ)
    → Link (link_at p q t) a b ↔ (Link t a b ⊎ ((p ≡ Some a) × (q ≡ Some b)))
at_exact (Some i) (Some j) t h a b =
    let m = link_more t i j (h i refl) a b in
    (λ l. ⊎_elim (λ x. inl x) (λ e. inr (ap Some (sym e.0), ap Some (sym e.1))) (m.0 l), λ s. m.1 (back s))
  where
    back : Link t a b ⊎ ((Some i ≡ Some a) × (Some j ≡ Some b)) → Link t a b ⊎ ((a ≡ i) × (b ≡ j))
    back (inl l) = inl l
    back (inr e) = inr (sym (at_same e.0), sym (at_same e.1))
at_exact (Some i) None t h a b = (λ l. inl l, ⊎_elim (λ l. l) (λ e. absurd (let z : ◌≡◌ {A = ℕ} 0 1 = cc e.1 in omega arith)))
at_exact None q t h a b = (λ l. inl l, ⊎_elim (λ l. l) (λ e. absurd (let z : ◌≡◌ {A = ℕ} 0 1 = cc e.0 in omega arith)))

-- a stream more is the link that it runs along more
link_exact : (us : List ℕ) → length us ≤ 64 → (t : List ℕ) → length t ≡ 64 → (s : Stream) (i j : ℕ)
    → Link (with_link us t s) i j ↔ (Link t i j ⊎ Runs us s i j)
unfolding with_link
link_exact us few t size s i j =
    at_exact (place_of us s.source) (place_of us s.receiver) t
    (λ k e. omega (arith, (place_found us s.source k e).0)) i j

with_exact : (us : List ℕ) → length us ≤ 64 → (ss : List Stream) (t : List ℕ) → length t ≡ 64 → (i j : ℕ)
    → Link (with_links us t ss) i j ↔ (Link t i j ⊎ Streamed us ss i j)
with_exact us few [] t size i j = (λ l. inl l, ⊎_elim (λ l. l) (λ r. absurd (Memᴰ.not-nil r.1)))
with_exact us few (s ∷ ss) t size i j =
    let rest = with_exact us few ss (with_link us t s) (length_link us t s ∙ size) i j in
    (λ l. ⊎_elim (λ x. one ((link_exact us few t size s i j).0 x)) (λ r. inr (r.0, Memᴰ.tail r.1, r.2)) (rest.0 l), λ x. rest.1 (back x))
  where
    one : Link t i j ⊎ Runs us s i j → Link t i j ⊎ Streamed us (s ∷ ss) i j
    one (inl l) = inl l
    one (inr r) = inr (s, Memᴰ.head refl, r)

    split : (r : Streamed us (s ∷ ss) i j) → (r.0 ≡ s) ⊎ Memᴰ r.0 ss → Link (with_link us t s) i j ⊎ Streamed us ss i j
    split r (inl e) = inl ((link_exact us few t size s i j).1 (inr (subst (λ (x : Stream). Runs us x i j) e r.2)))
    split r (inr p) = inr (r.0, p, r.2)

    back : Link t i j ⊎ Streamed us (s ∷ ss) i j → Link (with_link us t s) i j ⊎ Streamed us ss i j
    back (inl l) = inl ((link_exact us few t size s i j).1 (inl l))
    back (inr r) = split r (Memᴰ.cases_cons r.1)

with_length : (us t : List ℕ) (ss : List Stream) → length (with_links us t ss) ≡ length t
with_length us t [] = refl
with_length us t (s ∷ ss) = with_length us (with_link us t s) ss ∙ length_link us t s

pub links_length : (us : List ℕ) (ss : List Stream) → length (links_of us ss) ≡ 64
unfolding links_of
links_length us ss = with_length us (replicate 64 0) ss ∙ length-replicate {A = ℕ} 64 0

-- The table has a link from place i to place j exactly where a stream runs from the one to the other.
pub links_exact : (us : List ℕ) (ss : List Stream) → length us ≤ 64 → (i j : ℕ) → Link (links_of us ss) i j ↔ Streamed us ss i j
unfolding links_of
links_exact us ss few i j =
    let w = with_exact us few ss (replicate 64 0) (length-replicate {A = ℕ} 64 0) i j in
    (λ l. ⊎_elim (λ x. absurd (link_none 64 i j x)) (λ r. r) (w.0 l), λ r. w.1 (inr r))

-- Every link lies among the units' places.
pub links_inside : (us : List ℕ) (ss : List Stream) → length us ≤ 64 → (i j : ℕ) → Link (links_of us ss) i j → (i < length us) × (j < length us)
links_inside us ss few i j l =
    let r = (links_exact us ss few i j).0 l in
    ((place_found us r.0.source i r.2.0).0, (place_found us r.0.receiver j r.2.1).0)

-- ---- in unit numbers

module _ {us : List ℕ} {ss : List Stream} (good : Good us ss) where
  -- the units' numbers rise, so none stands twice
  pub units_up : (i j : ℕ) → i < j → j < length us → get_or us i 0 < get_or us j 0
  units_up = rising (λ (i : ℕ). get_or us i 0) (length us) good.units

  pub units_rise : Rises us
  units_rise = rises_at us units_up

  pub units_distinct : Distinct us
  units_distinct = rises_distinct units_rise

  -- A link between two places is a stream between their units.
  pub link_feeds : (i j : ℕ) → Link (links_of us ss) i j → Feeds us ss (get_or us i 0) (get_or us j 0)
  link_feeds i j l =
      let r = (links_exact us ss good.few_units i j).0 l in
      let a = place_found us r.0.source i r.2.0 in
      let b = place_found us r.0.receiver j r.2.1 in
      record {
        source = mem_at us i 0 a.0;
        receiver = mem_at us j 0 b.0;
        stream = r.0;
        held = r.1;
        leaves = sym a.1;
        enters = sym b.1;
      }

  pub feeds_link : (i j : ℕ) → i < length us → j < length us → Feeds us ss (get_or us i 0) (get_or us j 0) → Link (links_of us ss) i j
  feeds_link i j h k f =
      (links_exact us ss good.few_units i j).1 (
        f.stream,
        f.held,
        (
          place_is us units_distinct f.stream.source i h (sym f.leaves),
          place_is us units_distinct f.stream.receiver j k (sym f.enters),
        ),
      )

  -- So in unit numbers: a link exactly where a stream leads from the one unit to the other.
  pub link_units : (i j : ℕ) → i < length us → j < length us → Link (links_of us ss) i j ↔ Feeds us ss (get_or us i 0) (get_or us j 0)
  link_units i j h k = (link_feeds i j, feeds_link i j h k)

  -- the place of a unit
  abbrev place : ℕ → ℕ
  place u = place_number (place_of us u)

  place_unit : (i : ℕ) → i < length us → place (get_or us i 0) ≡ i
  place_unit i h = ap place_number (place_is us units_distinct (get_or us i 0) i h refl)

  feeds_places : (u v : ℕ) → Feeds us ss u v → Link (links_of us ss) (place u) (place v)
  feeds_places u v f =
      let a = mem_found us u f.source in
      let b = mem_found us v f.receiver in
      (links_exact us ss good.few_units (place u) (place v)).1 (
        f.stream,
        f.held,
        (
          ap (place_of us) f.leaves ∙ a.1 ∙ ap Some (sym (ap place_number a.1)),
          ap (place_of us) f.enters ∙ b.1 ∙ ap Some (sym (ap place_number b.1)),
        ),
      )

  -- Two places share a block exactly when their units do.
  pub same_units : (i j : ℕ) → SameBlock (Link (links_of us ss)) i j → SameBlock (Feeds us ss) (get_or us i 0) (get_or us j 0)
  same_units i j s = same_map (λ (k : ℕ). get_or us k 0) link_feeds s

  pub same_places : (i j : ℕ) → i < length us → j < length us → SameBlock (Feeds us ss) (get_or us i 0) (get_or us j 0) → SameBlock (Link (links_of us ss)) i j
  same_places i j h k s =
      subst (λ (x : ℕ). SameBlock (Link (links_of us ss)) x j) (place_unit i h)
      (subst (λ (x : ℕ). SameBlock (Link (links_of us ss)) (place (get_or us i 0)) x) (place_unit j k) (same_map place feeds_places s))
