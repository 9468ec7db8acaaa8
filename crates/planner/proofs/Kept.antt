-- What an edit of the flowsheet leaves of the plan as it was. A block is a list that rises and has exactly the units that share a block with one
-- of them (`IsBlock`). So where the streams of another flowsheet put its units together just so, it is one of the blocks there too, and with the
-- same streams inside it stands in the other's plan unchanged. Assumes nothing.
use mathlib.Core.Bool.{Bool, true, false, true≢false}
use mathlib.Core.List.Memᴰ
use mathlib.Core.List.{List, [], ◌∷◌, ◌++◌, map, Memᴰ}
use mathlib.Core.Logic.{◌⊎◌, inl, inr, ⊎_elim, ◌↔◌}
use mathlib.Core.Path.{◌≡◌, refl, sym, ap, ap₂, ◌∙◌, subst}
use Prim.Native.Nat.{ℕ, ◌≤◌}
use native.Mathlib.Omega.{arith}
use Rattle.std.proofs.lemmas.Bool.{true_from_ne_false}
use lib.ListN.{length, replicate}
use Rattle.blocks.specs.Blocks.{members_of}
use Rattle.blocks.specs.Links.{Path, link, onward, SameBlock}
use Rattle.blocks.specs.Order.{order_of}
use Rattle.blocks.specs.Reach.{reach_of}
use Rattle.flowsheet.specs.Good.{Good}
use Rattle.flowsheet.specs.Sheet.{place_of}
use Rattle.flowsheet.specs.declared.Stream.{Stream}
use Rattle.blocks.proofs.OrderOf.{order_most}
use Rattle.blocks.proofs.Paths.{same_more, block_kept}
use Rattle.blocks.proofs.Places.{rising_unique}
use Rattle.planner.specs.Demand2.{Rises, none, more, Feeds}
use Rattle.planner.specs.Links.{link_at, with_link, with_links, links_of}
use Rattle.planner.specs.Plan.{BlockPlan, units_in, ordered_of, torn_of, block_plan, reach_in, block_at, block_order, any_over, blocks_of, too_large, plan_of}
use Rattle.planner.proofs.Demand2.{plan_of_lem, shared}
use Rattle.planner.proofs.Inside.{plan_without}
use Rattle.planner.proofs.Members.{mem_with, mem_without, rises_distinct, rises_rising}
use Rattle.planner.proofs.Orders.{mem_perm, ordered_perm, length_within}
use Rattle.planner.proofs.Parted.{order_only, plan_mem, mem_plan, plan_length_lem, block_of, blocks_rise, blocks_known, blocks_some, blocks_all, blocks_small, small_blocks}
use Rattle.planner.proofs.TornStreams.{torn_source, torn_listed}

-- ---- what a block is

-- a unit that shares a block with a known one is known
path_from : {us : List ℕ} {ss : List Stream} {u v : ℕ} → Path (Feeds us ss) u v → (w : ℕ) × Feeds us ss u w
path_from (link {j = w} f) = (w, f)
path_from (onward {j = w} f p) = (w, f)

same_known : {us : List ℕ} {ss : List Stream} {u v : ℕ} → Memᴰ u us → SameBlock (Feeds us ss) u v → Memᴰ v us
same_known m (inl e) = Memᴰ.cast (sym e) m
same_known m (inr s) = (path_from s.1).1.source

-- c is one of the blocks of the flowsheet
record IsBlock (us : List ℕ) (ss : List Stream) (c : List ℕ) : Type 0 where
  some : (u : ℕ) × Memᴰ u c
  known : (u : ℕ) → Memᴰ u c → Memᴰ u us
  rises : Rises c
  share : (u v : ℕ) → Memᴰ u c → Memᴰ v c ↔ SameBlock (Feeds us ss) u v

module _ {us : List ℕ} {ss : List Stream} (good : Good us ss) where
  -- each of the planner's blocks is one
  is_block_at : (p : ℕ) → Memᴰ (block_at us ss p) (blocks_of us ss) → IsBlock us ss (block_at us ss p)
  is_block_at p m =
      record {
        some = blocks_some good (block_at us ss p) m;
        known = known;
        rises = blocks_rise good (block_at us ss p) m;
        share = λ u v k. (
          λ n.
              let s = shared good p u v (plan_mem ss (block_at us ss p) u k) (known v n) in
              s.0 (plan_mem ss (block_at us ss p) v n),
          λ x.
              let s = shared good p u v (plan_mem ss (block_at us ss p) u k) (same_known (known u k) x) in
              mem_plan ss (block_at us ss p) v (s.1 x),
        );
      }
    where
      known : (u : ℕ) → Memᴰ u (block_at us ss p) → Memᴰ u us
      known = blocks_known good (block_at us ss p) m

  block_is : (c : List ℕ) → Memᴰ c (blocks_of us ss) → IsBlock us ss c
  block_is c m =
      let r = block_of good c m in
      subst (λ (l : List ℕ). IsBlock us ss l) r.2 (is_block_at r.0 (Memᴰ.cast r.2 m))

  -- each unit is in one of them
  unit_block : (u : ℕ) → Memᴰ u us → (c : List ℕ) × Memᴰ c (blocks_of us ss) × Memᴰ u c
  unit_block u p =
      let b = order_only (plan_of us ss) u (blocks_all good u p) in
      let r = plan_of_lem good b.0 b.1 in
      (r.0, r.1, mem_plan ss r.0 u (subst (λ (x : BlockPlan). Memᴰ u x.units) (sym r.2) b.2))

  -- and no other list is one
  is_block : {c : List ℕ} → IsBlock us ss c → Memᴰ c (blocks_of us ss)
  is_block {c} k =
      let w = k.some in
      let d = unit_block w.0 (k.known w.0 w.1) in
      let q = block_is d.0 d.1 in
      let e : d.0 ≡ c =
      rising_unique (rises_rising q.rises) (rises_rising k.rises)
      (λ v m. (k.share w.0 v w.1).1 ((q.share w.0 v d.2).0 m))
      (λ v m. (q.share w.0 v d.2).1 ((k.share w.0 v w.1).0 m)) in
      Memᴰ.cast (sym e) d.1

  -- a block of the plan is the plan of a block
  plan_block : {b : BlockPlan} → Memᴰ b (plan_of us ss) → (c : List ℕ) × IsBlock us ss c × (block_plan c ss ≡ b)
  plan_block {b} m = let r = plan_of_lem good b m in (r.0, block_is r.0 r.1, r.2)

  -- and the plan of each block stands in the plan
  block_planned : {c : List ℕ} → IsBlock us ss c → Memᴰ (block_plan c ss) (plan_of us ss)
  unfolding plan_of
  block_planned k = Memᴰ.map (λ (c : List ℕ). block_plan c ss) (is_block k)

-- ---- a block of two flowsheets

-- A block c of us and ss, of units of vs that share a block with the same units in vs and ts, is one of the blocks of vs and ts.
stays : {us vs : List ℕ} {ss ts : List Stream} {c : List ℕ} → IsBlock us ss c → ((u : ℕ) → Memᴰ u c → Memᴰ u vs)
    → ((u v : ℕ) → Memᴰ u c → SameBlock (Feeds us ss) u v ↔ SameBlock (Feeds vs ts) u v) → IsBlock vs ts c
stays k known same =
    record {
      some = k.some;
      known = known;
      rises = k.rises;
      share = λ u v m. (λ p. (same u v m).0 ((k.share u v m).0 p), λ s. (k.share u v m).1 ((same u v m).1 s));
    }

-- So with the same plan in both, it stands in both plans.
block_stays : {us vs : List ℕ} {ss ts : List Stream} {c : List ℕ} → Good vs ts → IsBlock us ss c → ((u : ℕ) → Memᴰ u c → Memᴰ u vs)
    → ((u v : ℕ) → Memᴰ u c → SameBlock (Feeds us ss) u v ↔ SameBlock (Feeds vs ts) u v)
    → {b : BlockPlan} → block_plan c ts ≡ b → Memᴰ b (plan_of vs ts)
block_stays good k known same e = Memᴰ.cast (sym e) (block_planned good (stays k known same))

-- the units of a block's plan
units_in_block : (ss : List Stream) {c : List ℕ} {b : BlockPlan} → block_plan c ss ≡ b → (u : ℕ) → Memᴰ u c → Memᴰ u b.units
units_in_block ss {c} e u m = subst (λ (x : BlockPlan). Memᴰ u x.units) e (plan_mem ss c u m)

-- a stream between two units, in another flowsheet that has it and them
feeds_in : {us vs : List ℕ} {ss ts : List Stream} {u v : ℕ} (x : Feeds us ss u v) → Memᴰ u vs → Memᴰ v vs → Memᴰ x.stream ts
    → Feeds vs ts u v
feeds_in x a b m = record { source = a; receiver = b; stream = x.stream; held = m; leaves = x.leaves; enters = x.enters }

-- ---- a stream more or less

module _ {us : List ℕ} (front back : List Stream) (s : Stream) where
  -- what runs between units without the stream s runs there with it
  feeds_with : (u v : ℕ) → Feeds us (front ++ back) u v → Feeds us (front ++ (s ∷ back)) u v
  feeds_with u v x = feeds_in x x.source x.receiver (mem_with front back s x.held)

  -- and with it nothing more does but s
  feeds_without : (u v : ℕ) → Feeds us (front ++ (s ∷ back)) u v
      → Feeds us (front ++ back) u v ⊎ ((u ≡ s.source) × (v ≡ s.receiver))
  feeds_without u v x =
      ⊎_elim
      (λ e. inr (sym x.leaves ∙ ap (λ (t : Stream). t.source) e, sym x.enters ∙ ap (λ (t : Stream). t.receiver) e))
      (λ m. inl (feeds_in x x.source x.receiver m))
      (mem_without front back s x.held)

  -- A block of the flowsheet with the stream s that doesn't hold both ends of s stands in the plan without s too, with the same units in the
  -- same order and the same torn streams.
  pub stream_kept : Good us (front ++ (s ∷ back)) → Good us (front ++ back) → (b : BlockPlan) → Memᴰ b (plan_of us (front ++ (s ∷ back)))
      → (Memᴰ s.source b.units → Memᴰ s.receiver b.units → ⊥) → Memᴰ b (plan_of us (front ++ back))
  stream_kept with_s without b m apart =
      let r = plan_block with_s m in
      let k = r.1 in
      let in_b = units_in_block (front ++ (s ∷ back)) r.2 in
      block_stays without k k.known
      (λ u v p.
      block_kept s.source s.receiver feeds_with feeds_without
      (λ x y. apart (in_b s.source ((k.share u s.source p).1 x)) (in_b s.receiver ((k.share u s.receiver p).1 y))) v)
      (sym (plan_without r.0 front back s (λ x y. apart (in_b s.source x) (in_b s.receiver y))) ∙ r.2)

-- ---- another weight

-- streams with the same ends set the same link
with_link_ends : (us l : List ℕ) (s t : Stream) → s.source ≡ t.source → s.receiver ≡ t.receiver → with_link us l s ≡ with_link us l t
unfolding with_link
with_link_ends us l s t e d = ap₂ (λ (x y : ℕ). link_at (place_of us x) (place_of us y) l) e d

with_links_ends : (us l : List ℕ) (front back : List Stream) (s t : Stream) → s.source ≡ t.source → s.receiver ≡ t.receiver
    → with_links us l (front ++ (s ∷ back)) ≡ with_links us l (front ++ (t ∷ back))
with_links_ends us l [] back s t e d = ap (λ (m : List ℕ). with_links us m back) (with_link_ends us l s t e d)
with_links_ends us l (r ∷ front) back s t e d = with_links_ends us (with_link us l r) front back s t e d

module _ (us : List ℕ) (front back : List Stream) (s t : Stream) (source : s.source ≡ t.source) (receiver : s.receiver ≡ t.receiver) where
  -- a weight has no part in the blocks
  blocks_ends : blocks_of us (front ++ (s ∷ back)) ≡ blocks_of us (front ++ (t ∷ back))
  unfolding blocks_of block_order block_at reach_in links_of
  blocks_ends =
      ap (λ (l : List ℕ). map (λ (p : ℕ). units_in us (members_of (reach_of l) (length us) p)) (order_of (reach_of l) (length us)))
      (with_links_ends us (replicate 64 0) front back s t source receiver)

  -- A block that doesn't hold both ends of s stands in the plan with t in place of s too, where t runs from the same unit to the same unit,
  -- whatever its weight.
  pub weight_kept : (b : BlockPlan) → Memᴰ b (plan_of us (front ++ (s ∷ back)))
      → (Memᴰ s.source b.units → Memᴰ s.receiver b.units → ⊥) → Memᴰ b (plan_of us (front ++ (t ∷ back)))
  unfolding plan_of
  weight_kept b m apart =
      let r = Memᴰ.of_map (λ (c : List ℕ). block_plan c (front ++ (s ∷ back))) (blocks_of us (front ++ (s ∷ back))) m in
      let in_b = units_in_block (front ++ (s ∷ back)) r.2 in
      let without_s = plan_without r.0 front back s (λ x y. apart (in_b s.source x) (in_b s.receiver y)) in
      let without_t =
      plan_without r.0 front back t
      (λ x y. apart (in_b s.source (Memᴰ.cast source x)) (in_b s.receiver (Memᴰ.cast receiver y))) in
      Memᴰ.cast (sym r.2 ∙ without_s ∙ sym without_t)
      (Memᴰ.map (λ (c : List ℕ). block_plan c (front ++ (t ∷ back))) (subst (λ (bs : List (List ℕ)). Memᴰ r.0 bs) blocks_ends r.1))

  -- Nor has a weight a part in the blocks' sizes.
  pub large_weight : too_large us (front ++ (s ∷ back)) ≡ too_large us (front ++ (t ∷ back))
  unfolding too_large
  large_weight = ap any_over blocks_ends

-- ---- a unit more or less

-- no stream has the unit n at one of its ends
abbrev pub NoneAt : List Stream → ℕ → Type 0
NoneAt ss n = (t : Stream) → Memᴰ t ss → (t.source ≡ n → ⊥) × (t.receiver ≡ n → ⊥)

-- the only list with one member that has n
only_one : (n : ℕ) (l : List ℕ) → length l ≡ 1 → Memᴰ n l → l ≡ n ∷ []
only_one n [] e m = absurd (Memᴰ.not-nil m)
only_one n (x ∷ []) e m = ap (λ (y : ℕ). y ∷ []) (sym (Memᴰ.eq_of_singleton m))
only_one n (x ∷ y ∷ l) e m = absurd (omega arith)

no_members : (l : List ℕ) → ((x : ℕ) → Memᴰ x l → ⊥) → l ≡ []
no_members [] f = refl
no_members (x ∷ l) f = absurd (f x (Memᴰ.head refl))

module _ (n : ℕ) {ss : List Stream} (none_at : NoneAt ss n) where
  -- n shares a block with no other unit
  same_alone : {us : List ℕ} (v : ℕ) → SameBlock (Feeds us ss) n v → v ≡ n
  same_alone v (inl e) = sym e
  same_alone v (inr s) = let f = (path_from s.0).1 in absurd ((none_at f.stream f.held).0 f.leaves)

  block_alone : {us c : List ℕ} → IsBlock us ss c → Memᴰ n c → c ≡ n ∷ []
  block_alone k m =
      rising_unique (rises_rising k.rises) (rises_rising (more (λ j p. absurd (Memᴰ.not-nil p)) none))
      (λ v p. Memᴰ.head (same_alone v ((k.share n v m).0 p)))
      (λ v p. Memᴰ.cast (Memᴰ.eq_of_singleton p) m)

  plan_alone : (block_plan (n ∷ []) ss).torn ≡ []
  unfolding block_plan
  plan_alone =
      no_members (torn_of (ordered_of (n ∷ []) ss) ss)
      (λ x m.
      let r = (torn_listed (ordered_of (n ∷ []) ss) ss x).0 m in
      (none_at r.0 r.1).0
      (Memᴰ.eq_of_singleton (mem_perm (ordered_perm (n ∷ []) ss) r.0.source (torn_source (ordered_of (n ∷ []) ss) r.0 r.3))))

  -- The block of a unit that no stream leaves or enters has that unit alone and tears nothing.
  pub unit_alone : {us : List ℕ} → Good us ss → (b : BlockPlan) → Memᴰ b (plan_of us ss) → Memᴰ n b.units
      → (b.units ≡ n ∷ []) × (b.torn ≡ [])
  unit_alone good b m p =
      let r = plan_block good m in
      let in_c = mem_plan ss r.0 n (subst (λ (x : BlockPlan). Memᴰ n x.units) (sym r.2) p) in
      let c = block_alone r.1 in_c in
      let e : block_plan (n ∷ []) ss ≡ b = ap (λ (l : List ℕ). block_plan l ss) (sym c) ∙ r.2 in (
        only_one n b.units (ap (λ (x : BlockPlan). length x.units) (sym e) ∙ plan_length_lem ss (n ∷ [])) p,
        ap (λ (x : BlockPlan). x.torn) (sym e) ∙ plan_alone,
      )

  module _ (front back : List ℕ) where
    -- the units but n
    others : {u : ℕ} → (u ≡ n → ⊥) → Memᴰ u (front ++ (n ∷ back)) → Memᴰ u (front ++ back)
    others f m = ⊎_elim (λ e. absurd (f e)) (λ p. p) (mem_without front back n m)

    -- the streams between units are the same, with n and without it
    feeds_with_unit : (u v : ℕ) → Feeds (front ++ back) ss u v → Feeds (front ++ (n ∷ back)) ss u v
    feeds_with_unit u v x = feeds_in x (mem_with front back n x.source) (mem_with front back n x.receiver) x.held

    feeds_without_unit : (u v : ℕ) → Feeds (front ++ (n ∷ back)) ss u v → Feeds (front ++ back) ss u v
    feeds_without_unit u v x =
        feeds_in x
        (others (λ e. (none_at x.stream x.held).0 (x.leaves ∙ e)) x.source)
        (others (λ e. (none_at x.stream x.held).1 (x.enters ∙ e)) x.receiver)
        x.held

    same_unit : (u v : ℕ) → SameBlock (Feeds (front ++ back) ss) u v ↔ SameBlock (Feeds (front ++ (n ∷ back)) ss) u v
    same_unit u v = (same_more feeds_with_unit, same_more feeds_without_unit)

    -- Adding the unit n leaves every block as it was.
    pub unit_kept : Good (front ++ back) ss → Good (front ++ (n ∷ back)) ss → (b : BlockPlan) → Memᴰ b (plan_of (front ++ back) ss)
        → Memᴰ b (plan_of (front ++ (n ∷ back)) ss)
    unit_kept without with_n b m =
        let r = plan_block without m in
        block_stays with_n r.1 (λ u p. mem_with front back n (r.1.known u p)) (λ u v p. same_unit u v) r.2

    -- Removing it leaves every other block as it was.
    pub others_kept : Good (front ++ (n ∷ back)) ss → Good (front ++ back) ss → (b : BlockPlan) → Memᴰ b (plan_of (front ++ (n ∷ back)) ss)
        → (Memᴰ n b.units → ⊥) → Memᴰ b (plan_of (front ++ back) ss)
    others_kept with_n without b m other =
        let r = plan_block with_n m in
        let in_b = units_in_block ss r.2 in
        block_stays without r.1
        (λ u p. others (λ e. other (in_b n (Memᴰ.cast (sym e) p))) (r.1.known u p))
        (λ u v p. ((same_unit u v).1, (same_unit u v).0)) r.2

-- ---- blocks over 12 units

-- Where every stream of vs and ts between two units is one of us and ss too, each block of vs and ts with a unit of us lies in a block of us
-- and ss, and so has at most as many units.
small_stays : {us vs : List ℕ} {ss ts : List Stream} → Good us ss → Good vs ts → ((u v : ℕ) → Feeds vs ts u v → Feeds us ss u v)
    → ((c : List ℕ) → IsBlock vs ts c → (length c ≤ 12) ⊎ ((u : ℕ) × Memᴰ u c × Memᴰ u us))
    → too_large us ss ≡ false → too_large vs ts ≡ false
small_stays {us} {vs} {ss} {ts} good after feeds known small = small_blocks vs ts each
  where
    each : (c : List ℕ) → Memᴰ c (blocks_of vs ts) → length c ≤ 12
    each c m =
        let k = block_is after c m in
        ⊎_elim (λ h. h)
        (λ w.
        let d = unit_block good w.0 w.2 in
        let q = block_is good d.0 d.1 in
        omega (
          arith,
          length_within c d.0 (rises_distinct k.rises)
              (λ v p. (q.share w.0 v d.2).1 (same_more feeds ((k.share w.0 v w.1).0 p))),
          blocks_small us ss small d.0 d.1,
        ))
        (known c k)

-- Taking a stream away makes no block larger.
pub large_less : {us : List ℕ} (front back : List Stream) (s : Stream) → Good us (front ++ (s ∷ back)) → Good us (front ++ back)
    → too_large us (front ++ back) ≡ true → too_large us (front ++ (s ∷ back)) ≡ true
large_less {us} front back s with_s without e =
    true_from_ne_false (too_large us (front ++ (s ∷ back)))
    (λ h.
    true≢false
    (sym e
    ∙ small_stays with_s without (feeds_with front back s) (λ c k. inr (k.some.0, k.some.1, k.known k.some.0 k.some.1)) h))

-- A unit that no stream leaves or enters has no part in the blocks' sizes.
pub large_unit : (n : ℕ) {ss : List Stream} → NoneAt ss n → (front back : List ℕ) → Good (front ++ back) ss
    → Good (front ++ (n ∷ back)) ss → too_large (front ++ (n ∷ back)) ss ≡ too_large (front ++ back) ss
large_unit n {ss} none_at front back without with_n = agree (too_large (front ++ (n ∷ back)) ss) (too_large (front ++ back) ss) fewer further
  where
    agree : (x y : Bool) → (x ≡ false → y ≡ false) → (y ≡ false → x ≡ false) → x ≡ y
    agree false y f g = sym (f refl)
    agree true true f g = refl
    agree true false f g = g refl

    fewer : too_large (front ++ (n ∷ back)) ss ≡ false → too_large (front ++ back) ss ≡ false
    fewer =
        small_stays with_n without (feeds_with_unit n none_at front back)
        (λ c k. inr (k.some.0, k.some.1, mem_with front back n (k.known k.some.0 k.some.1)))

    further : too_large (front ++ back) ss ≡ false → too_large (front ++ (n ∷ back)) ss ≡ false
    further =
        small_stays without with_n (feeds_without_unit n none_at front back)
        (λ c k.
        ⊎_elim
        (λ e. inl (omega (arith, ap length (block_alone n none_at k (Memᴰ.cast (sym e) k.some.1)))))
        (λ m. inr (k.some.0, k.some.1, m))
        (mem_without front back n (k.known k.some.0 k.some.1)))

-- ---- nothing

-- A flowsheet of no units and no streams has a plan of no blocks.
pub plan_none : plan_of [] [] ≡ []
unfolding plan_of blocks_of block_order
plan_none = go (order_of (reach_in [] []) 0) (order_most (reach_in [] []) 0)
  where
    go : (places : List ℕ) → length places ≤ 0 → map (λ (b : List ℕ). block_plan b []) (map (block_at [] []) places) ≡ []
    go [] h = refl
    go (p ∷ places) h = absurd (omega arith)
