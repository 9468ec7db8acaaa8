-- The blocks part the units: each unit stands in one of them, and in one place of the whole order. What is placed by rule 4 doesn't come
-- again, so the units of a block are none of those before it. Assumes nothing.
use mathlib.Core.Bool.{Bool, true, false, true≢false}
use mathlib.Core.List.{List, [], ◌∷◌, ◌++◌, map, map-append, append-nil, append_assoc, Memᴰ}
use mathlib.Core.Logic.{◌⊎◌, inl, inr, ⊎_elim, ◌↔◌}
use mathlib.Core.Path.{◌≡◌, refl, sym, ap, ◌∙◌, subst}
use Prim.Native.Nat.{ℕ, ◌+◌, ◌*◌, ◌<◌, ◌≤◌}
use native.Mathlib.Omega.{arith}
use borrow.Author.Tests.{ltb-false, ltb-true}
use lib.Dec.{ltb}
use Rattle.std.proofs.lemmas.Bool.{false_from_ne_true}
use lib.ListN.{length, get_or, length-append, length-map}
use Rattle.blocks.specs.Blocks.{members_of, counts_of}
use Rattle.blocks.specs.Links.{Link, SameBlock}
use Rattle.blocks.specs.Reach.{reach_of}
use Rattle.blocks.specs.Rule4.{Placed, here, there, Next, Follows, end, next, Rule4}
use Rattle.flowsheet.specs.Good.{Good}
use Rattle.flowsheet.specs.declared.Stream.{Stream}
use Rattle.blocks.proofs.Blocks.{members_exact, members_rising, members_below}
use Rattle.blocks.proofs.OrderOf.{order_rule4, order_counts, order_most, order_below}
use Rattle.blocks.proofs.Paths.{same_sym, same_trans}
use Rattle.blocks.proofs.Rule4.{placed_same, placed_left, placed_last, rule4_once}
use Rattle.tearing.proofs.Lists.{Distinct, distinct_perm}
use Rattle.planner.specs.Demand2.{Feeds, Rises}
use Rattle.planner.specs.Links.{links_of}
use Rattle.planner.specs.Plan.{BlockPlan, units_in, ordered_of, block_plan, reach_in, block_at, block_order, any_over, blocks_of, too_large, plan_of}
use Rattle.planner.specs.Tables.{order_table, records_from}
use Rattle.planner.proofs.Linked.{links_length, links_inside, units_up, units_distinct, same_units, same_places}
use Rattle.planner.proofs.Members.{mem_at, at_mem, mem_split, mem_middle, distinct_append, distinct_left, distinct_right, distinct_apart, distinct_place, rises_distinct, rising_rises, rises_map}
use Rattle.planner.proofs.Orders.{perm_mem, mem_perm, ordered_perm, ordered_length}

-- ---- rule 4, of any links

module _ {L : ℕ → ℕ → Type 0} where
  -- a block that is placed is listed by one of its places
  pub placed_mem : {j : ℕ} {o : List ℕ} → Placed L j o → (p : ℕ) × Memᴰ p o × SameBlock L p j
  placed_mem (here {i = i} s) = (i, mathlib.Core.List.Memᴰ.head refl, s)
  placed_mem (there q) = let r = placed_mem q in (r.0, mathlib.Core.List.Memᴰ.tail r.1, r.2)

  pub mem_placed : {j p : ℕ} {o : List ℕ} → Memᴰ p o → SameBlock L p j → Placed L j o
  mem_placed {j} (mathlib.Core.List.Memᴰ.head e) s = here (subst (λ (x : ℕ). SameBlock L x j) e s)
  mem_placed (mathlib.Core.List.Memᴰ.tail m) s = there (mem_placed m s)

module _ {L : ℕ → ℕ → Type 0} {n : ℕ} where
  -- each block of an order by rule 4 came next after those before it
  turn_from : {done : List ℕ} (before after : List ℕ) (p : ℕ) → Follows L n done (before ++ (p ∷ after)) → Next L n (done ++ before) p
  turn_from {done} [] after p (next h r) = rw (append-nil done) h
  turn_from {done} (x ∷ before) after p (next h r) =
      subst (λ (l : List ℕ). Next L n l p) (append_assoc done (x ∷ []) before) (turn_from before after p r)

  pub turn : {o : List ℕ} → Rule4 L n o → (before after : List ℕ) (p : ℕ) → o ≡ before ++ (p ∷ after) → Next L n before p
  turn r before after p e = turn_from before after p (subst (λ (l : List ℕ). Follows L n [] l) e r)

  -- what is placed doesn't come again
  placed_once : {done o : List ℕ} {j : ℕ} → Follows L n done o → Placed L j done → Placed L j o → ⊥
  placed_once {done} r a b =
      let m = placed_mem b in
      let s = mem_split m.1 in
      let h = turn_from s.0 s.1 m.0 (subst (λ (l : List ℕ). Follows L n done l) s.2 r) in
      h.ready.left (placed_left s.0 (placed_same (same_sym m.2) a))

  -- a block that stands after the block of p is another one, and isn't placed before it
  pub later : {o : List ℕ} → Rule4 L n o → (before after : List ℕ) (p q : ℕ) → o ≡ before ++ (p ∷ after) → Memᴰ q after
      → Placed L q (before ++ (p ∷ [])) → ⊥
  later r before after p q e m a =
      let s = mem_split m in
      let split = e ∙ ap (λ (l : List ℕ). before ++ (p ∷ l)) s.2 ∙ sym (append_assoc before (p ∷ s.0) (q ∷ s.1)) in
      (turn r (before ++ (p ∷ s.0)) s.1 q split).ready.left
      (subst (λ (l : List ℕ). Placed L q l) (append_assoc before (p ∷ []) s.0) (placed_left s.0 a))

-- ---- the tables of blocks one after another

-- the plans of some blocks
abbrev pub plans_of : List Stream → List (List ℕ) → List BlockPlan
plans_of ss bs = map (λ (b : List ℕ). block_plan b ss) bs

pub order_append : (bs cs : List BlockPlan) → order_table (bs ++ cs) ≡ order_table bs ++ order_table cs
order_append [] cs = refl
order_append (b ∷ bs) cs =
    ap (λ (l : List ℕ). b.units ++ l) (order_append bs cs) ∙ sym (append_assoc b.units (order_table bs) (order_table cs))

pub plans_append : (ss : List Stream) (bs cs : List (List ℕ)) → plans_of ss (bs ++ cs) ≡ plans_of ss bs ++ plans_of ss cs
plans_append ss bs cs = map-append (λ (b : List ℕ). block_plan b ss) bs cs

-- the units of one of the blocks are in the table
pub order_has : {b : BlockPlan} {bs : List BlockPlan} (u : ℕ) → Memᴰ b bs → Memᴰ u b.units → Memᴰ u (order_table bs)
order_has u (mathlib.Core.List.Memᴰ.head {x = x} {xs = bs} e) p =
    mathlib.Core.List.Memᴰ.append_left (order_table bs) (subst (λ (c : BlockPlan). Memᴰ u c.units) e p)
order_has u (mathlib.Core.List.Memᴰ.tail {x = x} m) p = mathlib.Core.List.Memᴰ.append_right x.units (order_has u m p)

-- and no others
pub order_only : (bs : List BlockPlan) (u : ℕ) → Memᴰ u (order_table bs) → (b : BlockPlan) × Memᴰ b bs × Memᴰ u b.units
order_only [] u p = absurd (mathlib.Core.List.Memᴰ.not-nil p)
order_only (b ∷ bs) u p = go (order_only bs u) (mathlib.Core.List.Memᴰ.append_cases b.units p)
  where
    go : (Memᴰ u (order_table bs) → (c : BlockPlan) × Memᴰ c bs × Memᴰ u c.units)
        → Memᴰ u b.units ⊎ Memᴰ u (order_table bs) → (c : BlockPlan) × Memᴰ c (b ∷ bs) × Memᴰ u c.units
    go rest (inl q) = (b, mathlib.Core.List.Memᴰ.head refl, q)
    go rest (inr q) = let r = rest q in (r.0, mathlib.Core.List.Memᴰ.tail r.1, r.2)

-- a block's plan has the block's units
pub units_plan : (ss : List Stream) (block : List ℕ) → (block_plan block ss).units ≡ ordered_of block ss
unfolding block_plan
units_plan ss block = refl

pub plan_mem : (ss : List Stream) (block : List ℕ) (u : ℕ) → Memᴰ u block → Memᴰ u (block_plan block ss).units
unfolding block_plan
plan_mem ss block u p = perm_mem (ordered_perm block ss) u p

pub mem_plan : (ss : List Stream) (block : List ℕ) (u : ℕ) → Memᴰ u (block_plan block ss).units → Memᴰ u block
unfolding block_plan
mem_plan ss block u p = mem_perm (ordered_perm block ss) u p

pub plan_length_lem : (ss : List Stream) (block : List ℕ) → length (block_plan block ss).units ≡ length block
unfolding block_plan
plan_length_lem ss block = ordered_length block ss

-- four numbers for each block
pub records_length : (bs : List BlockPlan) (first before : ℕ) → length (records_from first before bs) ≡ 4 * length bs
records_length [] first before = refl
records_length (b ∷ bs) first before = omega (arith, records_length bs (first + length b.units) (before + length b.torn))

-- ---- the blocks of a flowsheet

module _ {us : List ℕ} {ss : List Stream} (good : Good us ss) where
  -- the places' order is the order of rule 4
  pub blocks_rule4 : Rule4 (Link (links_of us ss)) (length us) (block_order us ss)
  unfolding block_order reach_in
  blocks_rule4 = order_rule4 (links_of us ss) (links_length us ss) (length us) (links_inside us ss good.few_units)

  -- a unit of the block of place p stands in a place of p's block
  pub block_places : (p u : ℕ) → Memᴰ u (block_at us ss p)
      → (j : ℕ) × (j < length us) × (get_or us j 0 ≡ u) × SameBlock (Link (links_of us ss)) p j
  unfolding block_at units_in reach_in
  block_places p u m =
      let r = mathlib.Core.List.Memᴰ.of_map (λ (i : ℕ). get_or us i 0) (members_of (reach_in us ss) (length us) p) m in
      let s = (members_exact (links_of us ss) (links_length us ss) (length us) p r.0).0 r.1 in
      (r.0, s.0, r.2, s.1)

  pub places_block : (p j : ℕ) → j < length us → SameBlock (Link (links_of us ss)) p j → Memᴰ (get_or us j 0) (block_at us ss p)
  unfolding block_at units_in reach_in
  places_block p j h s =
      mathlib.Core.List.Memᴰ.map (λ (i : ℕ). get_or us i 0) ((members_exact (links_of us ss) (links_length us ss) (length us) p j).1 (h, s))

  block_rises : (p : ℕ) → Rises (block_at us ss p)
  unfolding block_at units_in
  block_rises p =
      rises_map (λ (i : ℕ). get_or us i 0)
      (λ x y a b h. units_up good x y h (members_below (reach_in us ss) (length us) p y b))
      (rising_rises (members_rising (reach_in us ss) (length us) p))

  block_length : (p : ℕ) → length (block_at us ss p) ≡ length (members_of (reach_of (links_of us ss)) (length us) p)
  unfolding block_at units_in reach_in
  block_length p = length-map (members_of (reach_of (links_of us ss)) (length us) p) (λ (i : ℕ). get_or us i 0)

  -- a unit stands in one place
  pub one_place : (i j : ℕ) → i < length us → j < length us → get_or us i 0 ≡ get_or us j 0 → i ≡ j
  one_place = distinct_place us (units_distinct good)

  -- Rule 1: a unit is of the block of p exactly when it shares a block with any unit of it.
  pub block_shares : (p u v : ℕ) → Memᴰ u (block_at us ss p) → Memᴰ v us → Memᴰ v (block_at us ss p) ↔ SameBlock (Feeds us ss) u v
  block_shares p u v m k =
      let i = block_places p u m in
      let j = at_mem 0 k in (
        λ n.
            let r = block_places p v n in
            subst (λ (a : ℕ). SameBlock (Feeds us ss) a v) i.2
            (subst (λ (a : ℕ). SameBlock (Feeds us ss) (get_or us i.0 0) a) r.2
            (same_units good i.0 r.0 (same_trans (same_sym i.3) r.3))),
        λ s.
            let x =
            same_places good i.0 j.0 i.1 j.1
            (subst (λ (a : ℕ). SameBlock (Feeds us ss) a (get_or us j.0 0)) (sym i.2)
            (subst (λ (a : ℕ). SameBlock (Feeds us ss) u a) (sym j.2) s)) in
            mathlib.Core.List.Memᴰ.cast (sym j.2) (places_block p j.0 j.1 (same_trans i.3 x)),
      )

  -- the blocks listed by the places o
  abbrev pub blocks_at : List ℕ → List (List ℕ)
  blocks_at o = map (block_at us ss) o

  -- a unit of one of these is placed, and a unit that is placed is of one of them
  pub units_placed : (o : List ℕ) (u : ℕ) → Memᴰ u (order_table (plans_of ss (blocks_at o)))
      → (j : ℕ) × (j < length us) × (get_or us j 0 ≡ u) × Placed (Link (links_of us ss)) j o
  units_placed o u m =
      let b = order_only (plans_of ss (blocks_at o)) u m in
      let c = mathlib.Core.List.Memᴰ.of_map (λ (x : List ℕ). block_plan x ss) (blocks_at o) b.1 in
      let p = mathlib.Core.List.Memᴰ.of_map (block_at us ss) o c.1 in
      let k : Memᴰ u (block_at us ss p.0) =
      subst (λ (x : List ℕ). Memᴰ u x) (sym p.2)
      (mem_plan ss c.0 u (subst (λ (x : BlockPlan). Memᴰ u x.units) (sym c.2) b.2)) in
      let r = block_places p.0 u k in
      (r.0, r.1, r.2, mem_placed p.1 r.3)

  pub placed_units : (o : List ℕ) (j : ℕ) → j < length us → Placed (Link (links_of us ss)) j o
      → Memᴰ (get_or us j 0) (order_table (plans_of ss (blocks_at o)))
  placed_units o j h a =
      let r = placed_mem a in
      order_has (get_or us j 0) (mathlib.Core.List.Memᴰ.map (λ (x : List ℕ). block_plan x ss) (mathlib.Core.List.Memᴰ.map (block_at us ss) r.1))
      (plan_mem ss (block_at us ss r.0) (get_or us j 0) (places_block r.0 j h r.2))

  -- no unit stands twice in a block's order
  pub plan_units_distinct : (p : ℕ) → Distinct (block_plan (block_at us ss p) ss).units
  plan_units_distinct p =
      subst (λ (l : List ℕ). Distinct l) (sym (units_plan ss (block_at us ss p)))
      (distinct_perm (ordered_perm (block_at us ss p) ss) (rises_distinct (block_rises p)))

  distinct_follows : {done o : List ℕ} → Follows (Link (links_of us ss)) (length us) done o → Distinct (order_table (plans_of ss (blocks_at o)))
  distinct_follows (end f) = tt
  distinct_follows {done} (next {i = i} {rest = o} h r) =
      distinct_append (block_plan (block_at us ss i) ss).units (order_table (plans_of ss (blocks_at o)))
      (plan_units_distinct i)
      (distinct_follows r)
      (λ x a b.
      let j = block_places i x (mem_plan ss (block_at us ss i) x a) in
      let k = units_placed o x b in
      let e : k.0 ≡ j.0 = one_place k.0 j.0 k.1 j.1 (k.2 ∙ sym j.2) in
      placed_once r (placed_last done j.3) (subst (λ (y : ℕ). Placed (Link (links_of us ss)) y o) e k.3))

  counts : (o : List ℕ) → length (order_table (plans_of ss (blocks_at o))) ≡ counts_of (reach_of (links_of us ss)) (length us) o
  counts [] = refl
  counts (i ∷ o) =
      length-append (block_plan (block_at us ss i) ss).units (order_table (plans_of ss (blocks_at o)))
      ∙ omega (arith, plan_length_lem ss (block_at us ss i), block_length i, counts o)

  -- No unit stands twice in the whole order.
  pub plan_distinct : Distinct (order_table (plan_of us ss))
  unfolding plan_of blocks_of
  plan_distinct = distinct_follows blocks_rule4

  -- The whole order has as many units as there are.
  pub order_length : length (order_table (plan_of us ss)) ≡ length us
  unfolding plan_of blocks_of block_order reach_in
  order_length =
      counts (block_order us ss)
      ∙ order_counts (links_of us ss) (links_length us ss) (length us) (links_inside us ss good.few_units)

  -- There are at most as many blocks as units.
  pub blocks_most : length (blocks_of us ss) ≤ length us
  unfolding blocks_of block_order
  blocks_most = omega (arith, length-map (block_order us ss) (block_at us ss), order_most (reach_in us ss) (length us))

  -- a block is that of one of the listed places
  pub block_of : (b : List ℕ) → Memᴰ b (blocks_of us ss) → (p : ℕ) × Memᴰ p (block_order us ss) × (block_at us ss p ≡ b)
  unfolding blocks_of
  block_of b m = mathlib.Core.List.Memᴰ.of_map (block_at us ss) (block_order us ss) m

  -- It has, with any of its units, those that share a block with that.
  pub blocks_share : (b : List ℕ) → Memᴰ b (blocks_of us ss) → (u v : ℕ) → Memᴰ u b → Memᴰ v us → Memᴰ v b ↔ SameBlock (Feeds us ss) u v
  blocks_share b m u v p k =
      let r = block_of b m in
      subst (λ (l : List ℕ). Memᴰ v l ↔ SameBlock (Feeds us ss) u v) r.2
      (block_shares r.0 u v (subst (λ (l : List ℕ). Memᴰ u l) (sym r.2) p) k)

  -- A block's numbers rise.
  pub blocks_rise : (b : List ℕ) → Memᴰ b (blocks_of us ss) → Rises b
  blocks_rise b m = let r = block_of b m in subst (λ (l : List ℕ). Rises l) r.2 (block_rises r.0)

  -- They are units' numbers.
  pub blocks_known : (b : List ℕ) → Memᴰ b (blocks_of us ss) → (u : ℕ) → Memᴰ u b → Memᴰ u us
  blocks_known b m u p =
      let r = block_of b m in
      let j = block_places r.0 u (subst (λ (l : List ℕ). Memᴰ u l) (sym r.2) p) in
      mathlib.Core.List.Memᴰ.cast (sym j.2) (mem_at us j.0 0 j.1)

  -- A block is not empty.
  pub blocks_some : (b : List ℕ) → Memᴰ b (blocks_of us ss) → (u : ℕ) × Memᴰ u b
  unfolding block_order
  blocks_some b m =
      let r = block_of b m in (
        get_or us r.0 0,
        subst (λ (l : List ℕ). Memᴰ (get_or us r.0 0) l) r.2
            (places_block r.0 r.0 (order_below (reach_in us ss) (length us) r.0 r.1) (inl refl)),
      )

  -- Each unit is in one of the blocks.
  pub unit_block : (u : ℕ) → Memᴰ u us → (b : List ℕ) × Memᴰ b (blocks_of us ss) × Memᴰ u b
  unfolding blocks_of
  unit_block u p =
      let j = at_mem 0 p in
      let o = rule4_once blocks_rule4 j.0 j.1 in (
        block_at us ss o.place,
        mathlib.Core.List.Memᴰ.map (block_at us ss)
            (subst (λ (l : List ℕ). Memᴰ o.place l) (sym o.split) (mem_middle o.before o.after)),
        mathlib.Core.List.Memᴰ.cast (sym j.2) (places_block o.place j.0 j.1 o.same),
      )

  -- So it stands in the whole order.
  pub blocks_all : (u : ℕ) → Memᴰ u us → Memᴰ u (order_table (plan_of us ss))
  unfolding plan_of
  blocks_all u p =
      let r = unit_block u p in
      order_has u (mathlib.Core.List.Memᴰ.map (λ (x : List ℕ). block_plan x ss) r.1) (plan_mem ss r.0 u r.2)

  -- ---- a front part of the blocks

  -- the order tables of the two parts are the whole order
  pub order_parts : (front back : List (List ℕ)) → blocks_of us ss ≡ front ++ back
      → order_table (plan_of us ss) ≡ order_table (plans_of ss front) ++ order_table (plans_of ss back)
  unfolding plan_of
  order_parts front back e =
      ap (λ (l : List (List ℕ)). order_table (plans_of ss l)) e
      ∙ ap order_table (plans_append ss front back)
      ∙ order_append (plans_of ss front) (plans_of ss back)

  pub front_distinct : (front back : List (List ℕ)) → blocks_of us ss ≡ front ++ back → Distinct (order_table (plans_of ss front))
  front_distinct front back e =
      distinct_left (order_table (plans_of ss front)) (order_table (plans_of ss back))
      (subst (λ (l : List ℕ). Distinct l) (order_parts front back e) (plan_distinct))

  -- their units together are all the units
  pub order_lengths : (front back : List (List ℕ)) → blocks_of us ss ≡ front ++ back
      → length (order_table (plans_of ss front)) + length (order_table (plans_of ss back)) ≡ length us
  order_lengths front back e =
      sym (length-append (order_table (plans_of ss front)) (order_table (plans_of ss back)))
      ∙ ap length (sym (order_parts front back e))
      ∙ order_length

  -- Two blocks have no unit in common.
  pub blocks_apart : (front back : List (List ℕ)) (b : List ℕ) → blocks_of us ss ≡ front ++ (b ∷ back) → (u : ℕ) → Memᴰ u b
      → (c : List ℕ) → Memᴰ c (front ++ back) → Memᴰ u c → ⊥
  blocks_apart front back b e u p c m q =
      let d = subst (λ (l : List ℕ). Distinct l) (order_parts front (b ∷ back) e) plan_distinct in
      let inside : (l : List (List ℕ)) → Memᴰ c l → Memᴰ u (order_table (plans_of ss l)) =
      λ l n. order_has u (mathlib.Core.List.Memᴰ.map (λ (x : List ℕ). block_plan x ss) n) (plan_mem ss c u q) in
      ⊎_elim
      (λ n.
      distinct_apart (order_table (plans_of ss front)) (order_table (plans_of ss (b ∷ back))) d u (inside front n)
      (mathlib.Core.List.Memᴰ.append_left (order_table (plans_of ss back)) (plan_mem ss b u p)))
      (λ n.
      distinct_apart (block_plan b ss).units (order_table (plans_of ss back))
      (distinct_right (order_table (plans_of ss front)) (order_table (plans_of ss (b ∷ back))) d) u
      (plan_mem ss b u p) (inside back n))
      (mathlib.Core.List.Memᴰ.append_cases front m)

-- ---- whether some block is too large

over_none : (bs : List (List ℕ)) → any_over bs ≡ false → (b : List ℕ) → Memᴰ b bs → length b ≤ 12
over_none [] e b m = absurd (mathlib.Core.List.Memᴰ.not-nil m)
over_none (c ∷ bs) e b m = go (ltb 12 (length c)) refl (over_none bs) (mathlib.Core.List.Memᴰ.cases_cons m)
  where
    go : (t : Bool) → ltb 12 (length c) ≡ t → (any_over bs ≡ false → (x : List ℕ) → Memᴰ x bs → length x ≤ 12)
        → (b ≡ c) ⊎ Memᴰ b bs → length b ≤ 12
    go true h rest q = absurd (true≢false (rw h at e))
    go false h rest (inl q) = omega (arith, ap length q, ltb-false 12 (length c) h)
    go false h rest (inr q) = rest (rw h at e) b q

-- Where no block is too large, each has at most 12 units.
pub blocks_small : (us : List ℕ) (ss : List Stream) → too_large us ss ≡ false → (b : List ℕ) → Memᴰ b (blocks_of us ss) → length b ≤ 12
unfolding too_large
blocks_small us ss e b m = over_none (blocks_of us ss) e b m

over_some : (bs : List (List ℕ)) → any_over bs ≡ true → (b : List ℕ) × Memᴰ b bs × (12 < length b)
over_some [] e = absurd (true≢false (sym e))
over_some (c ∷ bs) e = go (ltb 12 (length c)) refl (over_some bs)
  where
    go : (t : Bool) → ltb 12 (length c) ≡ t → (any_over bs ≡ true → (b : List ℕ) × Memᴰ b bs × (12 < length b))
        → (b : List ℕ) × Memᴰ b (c ∷ bs) × (12 < length b)
    go true h rest = (c, mathlib.Core.List.Memᴰ.head refl, ltb-true 12 (length c) h)
    go false h rest = let r = rest (rw h at e) in (r.0, mathlib.Core.List.Memᴰ.tail r.1, r.2)

-- Where some block is too large, one of them has more.
pub block_large : (us : List ℕ) (ss : List Stream) → too_large us ss ≡ true → (b : List ℕ) × Memᴰ b (blocks_of us ss) × (12 < length b)
unfolding too_large
block_large us ss e = over_some (blocks_of us ss) e

-- And where each has at most 12, none is.
pub small_blocks : (us : List ℕ) (ss : List Stream) → ((b : List ℕ) → Memᴰ b (blocks_of us ss) → length b ≤ 12)
    → too_large us ss ≡ false
small_blocks us ss f =
    false_from_ne_true (too_large us ss) (λ e. let r = block_large us ss e in absurd (omega (arith, f r.0 r.1, r.2)))
