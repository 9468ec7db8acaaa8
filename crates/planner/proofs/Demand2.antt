-- Demand 2: the plan keeps rules 1 to 4, its untorn streams run forward, and it is the only plan that keeps the rules. What `blocks` says of
-- places is said of their units, block by block. Assumes nothing.
use mathlib.Core.Bool.{Bool, true, false}
use mathlib.Core.List.{List, [], ◌∷◌, ◌++◌, map, map-append, append_assoc, Memᴰ}
use mathlib.Core.Logic.{inl, ◌↔◌}
use mathlib.Core.Path.{◌≡◌, refl, sym, ap, ap₂, ◌∙◌, subst}
use Prim.Native.Nat.{ℕ, ◌<◌}
use native.Mathlib.Omega.{arith}
use lib.ListN.{length, get_or}
use Rattle.blocks.specs.Links.{Link, SameBlock}
use Rattle.blocks.specs.Rule4.{Placed as ListedIn, Ready, Before}
use Rattle.flowsheet.specs.Good.{Good}
use Rattle.flowsheet.specs.declared.Stream.{Stream}
use Rattle.blocks.proofs.Free.{same?}
use Rattle.blocks.proofs.OrderOf.{order_below}
use Rattle.blocks.proofs.Paths.{same_sym, same_trans}
use Rattle.blocks.proofs.Rounds.{path?}
use Rattle.blocks.proofs.Rule4.{placed_left, placed_last, ready_same, rule4_once, rule4_forward}
use Rattle.tearing.proofs.Lists.{Distinct}
use Rattle.planner.specs.Demand2.{Feeds, StandsBefore, Torn, BlockRules, Fed, Lower, Rules, Forward}
use Rattle.planner.specs.Links.{links_of}
use Rattle.planner.specs.Plan.{BlockPlan, is_torn, block_plan, reach_in, block_at, block_order, blocks_of, too_large, plan_of}
use Rattle.planner.specs.Tables.{order_table}
use Rattle.planner.proofs.LeastOrder.{block_rules}
use Rattle.planner.proofs.Linked.{links_length, links_inside, units_up, link_feeds, feeds_link}
use Rattle.planner.proofs.Members.{mem_at, at_mem, mem_split, mem_middle, distinct_once}
use Rattle.planner.proofs.OnlyPlan.{rules_only}
use Rattle.planner.proofs.Parted.{turn, later, plans_of, order_only, plan_mem, mem_plan, blocks_rule4, block_places, places_block, block_shares, one_place, blocks_at, units_placed, placed_units, plan_units_distinct, plan_distinct, order_parts, blocks_known, blocks_some, blocks_rise, blocks_all, blocks_small}
use Rattle.planner.proofs.TornStreams.{torn_is, untorn_stands, streams_rise}

-- where a carried list is cut, the list is cut there
record Cut {A B : Type 0} (f : A → B) (l : List A) (front back : List B) (y : B) : Type 0 where
  before : List A
  at : A
  after : List A
  split : l ≡ before ++ (at ∷ after)
  fronts : front ≡ map f before
  same : y ≡ f at
  backs : back ≡ map f after

map_cut : {A B : Type 0} (f : A → B) (l : List A) (front back : List B) (y : B) → map f l ≡ front ++ (y ∷ back) → Cut f l front back y
map_cut f [] [] back y e = absurd (let z : ◌≡◌ {A = ℕ} 0 1 = cc in omega arith)
map_cut f [] (z ∷ front) back y e = absurd (let z : ◌≡◌ {A = ℕ} 0 1 = cc in omega arith)
map_cut f (x ∷ l) [] back y e = record { before = []; at = x; after = l; split = refl; fronts = refl; same = cc; backs = cc }
map_cut {A} {B} f (x ∷ l) (z ∷ front) back y e = longer (cc) (map_cut f l front back y (cc))
  where
    longer : z ≡ f x → Cut f l front back y → Cut f (x ∷ l) (z ∷ front) back y
    longer h c =
        record {
          before = x ∷ c.before;
          at = c.at;
          after = c.after;
          split = ap (λ (k : List A). x ∷ k) c.split;
          fronts = ap₂ (λ (a : B) (k : List B). a ∷ k) h c.fronts;
          same = c.same;
          backs = c.backs;
        }

-- ---- standing before

stands_across : {u v : ℕ} {a b : List ℕ} → Memᴰ u a → Memᴰ v b → StandsBefore (a ++ b) u v
stands_across {u} {v} {a} {b} p q =
    let r = mem_split p in
    record {
      front = r.0;
      back = r.1 ++ b;
      split = ap (λ (l : List ℕ). l ++ b) r.2 ∙ append_assoc r.0 (u ∷ r.1) b;
      later = mathlib.Core.List.Memᴰ.append_right r.1 q;
    }

stands_left : {u v : ℕ} {o : List ℕ} (b : List ℕ) → StandsBefore o u v → StandsBefore (o ++ b) u v
stands_left {u} b s =
    record {
      front = s.front;
      back = s.back ++ b;
      split = ap (λ (l : List ℕ). l ++ b) s.split ∙ append_assoc s.front (u ∷ s.back) b;
      later = mathlib.Core.List.Memᴰ.append_left b s.later;
    }

stands_right : {u v : ℕ} (a : List ℕ) {o : List ℕ} → StandsBefore o u v → StandsBefore (a ++ o) u v
stands_right {u} a s =
    record {
      front = a ++ s.front;
      back = s.back;
      split = ap (λ (l : List ℕ). a ++ l) s.split ∙ sym (append_assoc a s.front (u ∷ s.back));
      later = s.later;
    }

module _ {us : List ℕ} {ss : List Stream} (good : Good us ss) where
  abbrev L : ℕ → ℕ → Type 0
  L = Link (links_of us ss)

  -- the plan of the block of place p, and the plans of the blocks listed
  abbrev plan_at : ℕ → BlockPlan
  plan_at p = block_plan (block_at us ss p) ss

  abbrev plans_at : List ℕ → List BlockPlan
  plans_at o = plans_of ss (blocks_at good o)

  -- ---- one block

  -- a place shares the block of p exactly when its unit is in it
  in_block : (p j : ℕ) → j < length us → Memᴰ (get_or us j 0) (plan_at p).units ↔ SameBlock L p j
  in_block p j h = (
    λ m.
        let r = block_places good p (get_or us j 0) (mem_plan ss (block_at us ss p) (get_or us j 0) m) in
        subst (λ (x : ℕ). SameBlock L p x) (one_place good r.0 j r.1 h r.2) r.3,
    λ s. plan_mem ss (block_at us ss p) (get_or us j 0) (places_block good p j h s),
  )

  -- the places of a block's units
  unit_at_lem : (p u : ℕ) → Memᴰ u (plan_at p).units → (j : ℕ) × (j < length us) × (get_or us j 0 ≡ u) × SameBlock L p j
  unit_at_lem p u m = block_places good p u (mem_plan ss (block_at us ss p) u m)

  -- a block of the plan is the plan of one of the blocks
  pub plan_of_lem : (b : BlockPlan) → Memᴰ b (plan_of us ss) → (block : List ℕ) × Memᴰ block (blocks_of us ss) × (block_plan block ss ≡ b)
  unfolding plan_of
  plan_of_lem b m = mathlib.Core.List.Memᴰ.of_map (λ (x : List ℕ). block_plan x ss) (blocks_of us ss) m

  -- and that of one of the places listed
  listed : (o : List ℕ) (b : BlockPlan) → Memᴰ b (plans_at o) → (p : ℕ) × Memᴰ p o × (plan_at p ≡ b)
  listed o b m =
      let r = mathlib.Core.List.Memᴰ.of_map (λ (x : List ℕ). block_plan x ss) (blocks_at good o) m in
      let s = mathlib.Core.List.Memᴰ.of_map (block_at us ss) o r.1 in
      (s.0, s.1, ap (λ (x : List ℕ). block_plan x ss) s.2 ∙ r.2)

  plan_at_lem : (b : BlockPlan) → Memᴰ b (plan_of us ss) → (p : ℕ) × Memᴰ p (block_order us ss) × (plan_at p ≡ b)
  unfolding plan_of blocks_of
  plan_at_lem b m = listed (block_order us ss) b m

  listed_below : (p : ℕ) → Memᴰ p (block_order us ss) → p < length us
  unfolding block_order
  listed_below p m = order_below (reach_in us ss) (length us) p m

  -- rule 1
  pub shared : (p u v : ℕ) → Memᴰ u (plan_at p).units → Memᴰ v us → Memᴰ v (plan_at p).units ↔ SameBlock (Feeds us ss) u v
  shared p u v m k =
      let block = block_at us ss p in
      let r = block_shares good p u v (mem_plan ss block u m) k in
      (λ n. r.0 (mem_plan ss block v n), λ s. plan_mem ss block v (r.1 s))

  -- ---- rule 4

  -- where the plan is cut, the order of the places is
  record PlanCut (front back : List BlockPlan) (b : BlockPlan) : Type 0 where
    before : List ℕ
    at : ℕ
    after : List ℕ
    split : block_order us ss ≡ before ++ (at ∷ after)
    fronts : front ≡ plans_at before
    same : b ≡ plan_at at
    backs : back ≡ plans_at after

  plan_cut : (front back : List BlockPlan) (b : BlockPlan) → plan_of us ss ≡ front ++ (b ∷ back) → PlanCut front back b
  unfolding plan_of blocks_of
  plan_cut front back b e = through (map_cut (λ (x : List ℕ). block_plan x ss) (blocks_of us ss) front back b e)
    where
      through : Cut (λ (x : List ℕ). block_plan x ss) (blocks_at good (block_order us ss)) front back b → PlanCut front back b
      through r =
          let c = map_cut (block_at us ss) (block_order us ss) r.before r.after r.at r.split in
          record {
            before = c.before;
            at = c.at;
            after = c.after;
            split = c.split;
            fronts = r.fronts ∙ ap (plans_of ss) c.fronts;
            same = r.same ∙ ap (λ (x : List ℕ). block_plan x ss) c.same;
            backs = r.backs ∙ ap (plans_of ss) c.backs;
          }

  fed_at : (before after : List ℕ) (p : ℕ) → block_order us ss ≡ before ++ (p ∷ after) → Fed us ss (plans_at before) (plan_at p)
  fed_at before after p e u v f m n =
      let j = unit_at_lem p v m in
      let i = at_mem 0 f.source in
      let l =
      feeds_link good i.0 j.0 i.1 j.1
      (subst (λ (a : ℕ). Feeds us ss a (get_or us j.0 0)) (sym i.2) (subst (λ (a : ℕ). Feeds us ss u a) (sym j.2) f)) in
      mathlib.Core.List.Memᴰ.cast (sym i.2)
      (placed_units good before i.0 i.1
      ((turn (blocks_rule4 good) before after p e).ready.fed i.0 j.0 l j.3
      (λ s. n (mathlib.Core.List.Memᴰ.cast (sym i.2) ((in_block p i.0 i.1).1 s)))))

  -- a later block that is fed is ready
  ready_at : (before after : List ℕ) (p q : ℕ) → block_order us ss ≡ before ++ (p ∷ after) → Memᴰ q after
      → Fed us ss (plans_at before) (plan_at q) → Ready L (length us) before q
  ready_at before after p q e m f =
      record {
        known =
            listed_below q
            (subst (λ (o : List ℕ). Memᴰ q o) (sym e) (mathlib.Core.List.Memᴰ.append_right before (mathlib.Core.List.Memᴰ.tail m)));
        left = λ a. later (blocks_rule4 good) before after p q e m (placed_left (p ∷ []) a);
        fed = λ a b l s n.
            let k = links_inside us ss good.few_units a b l in
            let r =
            units_placed good before (get_or us a 0)
            (f (get_or us a 0) (get_or us b 0) (link_feeds good a b l) ((in_block q b k.1).1 s) (λ x. n ((in_block q a k.0).0 x))) in
            subst (λ (x : ℕ). ListedIn L x before) (one_place good r.0 a r.1 k.0 r.2) r.3;
      }

  lowest_at : (before after : List ℕ) (p q : ℕ) → block_order us ss ≡ before ++ (p ∷ after) → Memᴰ q after
      → Fed us ss (plans_at before) (plan_at q) → Lower (plan_at p) (plan_at q)
  lowest_at before after p q e m f =
      let known = listed_below p (subst (λ (o : List ℕ). Memᴰ p o) (sym e) (mem_middle before after)) in
      record {
        unit = get_or us p 0;
        of = (in_block p p known).1 (inl refl);
        below = λ v n.
            let j = unit_at_lem q v n in
            let least = (turn (blocks_rule4 good) before after p e).lowest j.0 (ready_same j.3 j.1 (ready_at before after p q e m f)) in
            let apart : p ≡ j.0 → ⊥ =
            λ x.
            later (blocks_rule4 good) before after p q e m
            (placed_last before (same_sym (subst (λ (y : ℕ). SameBlock L q y) (sym x) j.3))) in
            omega (arith, j.2, units_up good p j.0 (omega (arith, least, apart)) j.1);
      }

  lowest_in : (front back : List BlockPlan) (b : BlockPlan) → PlanCut front back b → (d : BlockPlan) → Memᴰ d back
      → Fed us ss front d → Lower b d
  lowest_in front back b c d m f =
      let r = listed c.after d (subst (λ (x : List BlockPlan). Memᴰ d x) c.backs m) in
      subst (λ (x : BlockPlan). Lower x d) (sym c.same)
      (subst (λ (x : BlockPlan). Lower (plan_at c.at) x) r.2
      (lowest_at c.before c.after c.at r.0 c.split r.1
      (subst (λ (x : BlockPlan). Fed us ss (plans_at c.before) x) (sym r.2)
      (subst (λ (x : List BlockPlan). Fed us ss x d) c.fronts f))))

  fed_in : (front back : List BlockPlan) (b : BlockPlan) → PlanCut front back b → Fed us ss front b
  fed_in front back b c =
      subst (λ (x : BlockPlan). Fed us ss front x) (sym c.same)
      (subst (λ (x : List BlockPlan). Fed us ss x (plan_at c.at)) (sym c.fronts) (fed_at c.before c.after c.at c.split))

  -- The plan keeps rules 1 to 4.
  pub demand2 : too_large us ss ≡ false → Rules us ss (plan_of us ss)
  unfolding plan_of
  demand2 small =
      record {
        all = blocks_all good;
        only = λ u m.
            let b = order_only (plan_of us ss) u m in
            let r = plan_of_lem b.0 b.1 in
            blocks_known good r.0 r.1 u
            (mem_plan ss r.0 u (subst (λ (x : BlockPlan). Memᴰ u x.units) (sym r.2) b.2));
        once = λ front back u e m. distinct_once front back u (subst (λ (l : List ℕ). Distinct l) e (plan_distinct good)) m;
        some = λ b m.
            let r = plan_of_lem b m in
            let w = blocks_some good r.0 r.1 in
            (w.0, subst (λ (x : BlockPlan). Memᴰ w.0 x.units) r.2 (plan_mem ss r.0 w.0 w.1));
        share = λ b m u k v n.
            let p = plan_at_lem b m in
            subst (λ (x : BlockPlan). Memᴰ v x.units ↔ SameBlock (Feeds us ss) u v) p.2
            (shared p.0 u v (subst (λ (x : BlockPlan). Memᴰ u x.units) (sym p.2) k) n);
        blocks = λ b m.
            let r = plan_of_lem b m in
            subst (λ (x : BlockPlan). BlockRules ss x) r.2
            (block_rules r.0 (blocks_rise good r.0 r.1) (blocks_small us ss small r.0 r.1) ss (streams_rise good));
        fed = λ front back b e. fed_in front back b (plan_cut front back b e);
        lowest = λ front back b e d m f. lowest_in front back b (plan_cut front back b e) d m f;
      }

  -- ---- untorn streams run forward

  order_cut : (o p : List ℕ) → block_order us ss ≡ o ++ p → order_table (plan_of us ss) ≡ order_table (plans_at o) ++ order_table (plans_at p)
  unfolding blocks_of
  order_cut o p e = order_parts good (blocks_at good o) (blocks_at good p) (ap (map (block_at us ss)) e ∙ map-append (block_at us ss) o p)

  forward_within : (before after : List ℕ) (p : ℕ) → block_order us ss ≡ before ++ (p ∷ after) → (s : Stream)
      → Memᴰ s.source (plan_at p).units → Memᴰ s.receiver (plan_at p).units → (Torn (plan_at p).units s → ⊥)
      → StandsBefore (order_table (plan_of us ss)) s.source s.receiver
  forward_within before after p e s m n f =
      subst (λ (l : List ℕ). StandsBefore l s.source s.receiver) (sym (order_cut before (p ∷ after) e))
      (stands_right (order_table (plans_at before)) (stands_left (order_table (plans_at after)) (go (is_torn (plan_at p).units s) refl)))
    where
      go : (t : Bool) → is_torn (plan_at p).units s ≡ t → StandsBefore (plan_at p).units s.source s.receiver
      go true x = absurd (f ((torn_is (plan_at p).units (plan_units_distinct good p) s).0 x))
      go false x = untorn_stands (plan_at p).units s m n x

  -- a stream whose ends share a block, and that isn't torn there
  forward_same : (i j : ℕ) → i < length us → j < length us → SameBlock L i j → (s : Stream) → get_or us i 0 ≡ s.source → get_or us j 0 ≡ s.receiver
      → ((p : ℕ) → Memᴰ p (block_order us ss) → Torn (plan_at p).units s → ⊥)
      → StandsBefore (order_table (plan_of us ss)) s.source s.receiver
  forward_same i j h k x s e d f =
      let o = rule4_once (blocks_rule4 good) i h in
      let here : Memᴰ o.place (block_order us ss) =
      subst (λ (l : List ℕ). Memᴰ o.place l) (sym o.split) (mem_middle o.before o.after) in
      forward_within o.before o.after o.place o.split s
      (mathlib.Core.List.Memᴰ.cast (sym e) ((in_block o.place i h).1 o.same))
      (mathlib.Core.List.Memᴰ.cast (sym d) ((in_block o.place j k).1 (same_trans o.same x))) (f o.place here)

  -- a stream from one block to another
  forward_across : (i j : ℕ) → i < length us → j < length us → Before L (block_order us ss) i j → {u v : ℕ} → get_or us i 0 ≡ u → get_or us j 0 ≡ v
      → StandsBefore (order_table (plan_of us ss)) u v
  forward_across i j h k w {u} {v} e d =
      let parts = order_cut w.front w.back w.split in
      subst (λ (l : List ℕ). StandsBefore l u v) (sym parts)
      (stands_across (mathlib.Core.List.Memᴰ.cast (sym e) (placed_units good w.front i h w.source)) (mathlib.Core.List.Memᴰ.cast (sym d) (placed_units good w.back j k w.receiver)))

  -- The untorn streams run forward.
  pub demand2_forward : Forward us ss (plan_of us ss)
  unfolding plan_of blocks_of
  demand2_forward s m a b f = go (at_mem 0 a) (at_mem 0 b)
    where
      go : (i : ℕ) × (i < length us) × (get_or us i 0 ≡ s.source) → (j : ℕ) × (j < length us) × (get_or us j 0 ≡ s.receiver)
          → StandsBefore (order_table (plan_of us ss)) s.source s.receiver
      go i j =
          let l : L i.0 j.0 =
          feeds_link good i.0 j.0 i.1 j.1
          (record {
            source = mem_at us i.0 0 i.1;
            receiver = mem_at us j.0 0 j.1;
            stream = s;
            held = m;
            leaves = sym i.2;
            enters = sym j.2;
          }) in
          elim (same? (path? (links_of us ss) (links_length us ss)) i.0 j.0) [
            | yes x ↦
                forward_same i.0 j.0 i.1 j.1 x s i.2 j.2
                (λ p n. f (plan_at p) (mathlib.Core.List.Memᴰ.map (λ (l : List ℕ). block_plan l ss) (mathlib.Core.List.Memᴰ.map (block_at us ss) n)))
            | no g ↦
                forward_across i.0 j.0 i.1 j.1 (rule4_forward (blocks_rule4 good) i.0 j.0 j.1 l g) i.2 j.2
          ]

  -- Any plan that keeps the rules is the plan.
  pub demand2_only : too_large us ss ≡ false → (plan : List BlockPlan) → Rules us ss plan → plan ≡ plan_of us ss
  demand2_only small plan r = rules_only us ss r (demand2 small)
