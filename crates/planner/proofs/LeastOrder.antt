-- Rules 2 and 3, of one block: of all orders of its units none tears less than the block's order, and of those that tear as little it is the
-- first. What holds of the orders of its places is carried to the orders of its units. Assumes nothing.
use mathlib.Core.List.{List, map, Memᴰ}
use mathlib.Core.Path.{◌≡◌, sym, ap, ◌∙◌, subst}
use Prim.Native.Nat.{ℕ, ◌<◌, ◌≤◌}
use native.Mathlib.Omega.{arith}
use lib.ListN.{length, get_or}
use Rattle.flowsheet.specs.declared.Stream.{Stream}
use Rattle.tearing.specs.Best.{best}
use Rattle.tearing.specs.Order.{Perm, upto, torn, Lex}
use Rattle.tearing.specs.Row.{weights}
use Rattle.tearing.proofs.Chosen.{best_order, best_least, best-first}
use Rattle.tearing.proofs.Lists.{Distinct, distinct_perm, upto_below}
use Rattle.planner.specs.Demand2.{torn_weight, Rises, BlockRules}
use Rattle.planner.specs.Plan.{row_of, ordered_of, block_plan}
use Rattle.planner.proofs.Members.{each_mem, rises_distinct, rises_up}
use Rattle.planner.proofs.Orders.{perm_mem, mem_perm, same_members, perm_back, lex_map, block_at_lem, ordered_perm}
use Rattle.planner.proofs.TornStreams.{torn_is, torn_listed, torn_rises}
use Rattle.planner.proofs.Weighed.{torn_units}

module _ (block : List ℕ) (rises : Rises block) (few : length block ≤ 12) (ss : List Stream) where
  abbrev unit : ℕ → ℕ
  unit i = get_or block i 0

  abbrev W : ℕ → ℕ → ℕ
  W = weights (row_of block ss)

  abbrev places : List ℕ
  places = upto (length block)

  -- the block's order tears what the best order of its places tears
  own : torn W places (best W (length block)) ≡ torn_weight ss (ordered_of block ss)
  unfolding ordered_of
  own = torn_units block (rises_distinct rises) few ss (best_order W (length block))

  -- every order of the block's units is an order of its places
  from_places : (p : List ℕ) → Perm (ordered_of block ss) p → (o : List ℕ) × Perm places o × (p ≡ map unit o)
  from_places p q =
      let d = rises_distinct rises in
      let r = ordered_perm block ss in
      perm_back unit
      (same_members block p d (distinct_perm q (distinct_perm r d)) (λ x m. perm_mem q x (perm_mem r x m)) (λ x m. mem_perm r x (mem_perm q x m)))
      places (sym (block_at_lem block))

  other : (p o : List ℕ) → Perm places o → p ≡ map unit o → torn W places o ≡ torn_weight ss p
  other p o q e = torn_units block (rises_distinct rises) few ss q ∙ ap (torn_weight ss) (sym e)

  place_below : {o : List ℕ} → Perm places o → (x : ℕ) → Memᴰ x o → x < length block
  place_below q x m = each_mem (λ y. y < length block) (upto_below (length block)) (mem_perm q x m)

  pub ordered_least : (p : List ℕ) → Perm (ordered_of block ss) p → torn_weight ss (ordered_of block ss) ≤ torn_weight ss p
  ordered_least p q =
      let r = from_places p q in
      omega (arith, own, other p r.0 r.1 r.2, best_least W (length block) r.0 r.1)

  pub ordered_first : (p : List ℕ) → Perm (ordered_of block ss) p → torn_weight ss p ≡ torn_weight ss (ordered_of block ss) → Lex (ordered_of block ss) p
  unfolding ordered_of
  ordered_first p q e =
      let r = from_places p q in
      let l = best-first W (length block) r.0 r.1 (other p r.0 r.1 r.2 ∙ e ∙ sym own) in
      subst (λ (x : List ℕ). Lex (ordered_of block ss) x) (sym r.2)
      (lex_map unit (λ x y a b h. rises_up rises x y h (place_below r.1 y b)) l)

  -- The block's plan keeps rules 2 and 3.
  pub block_rules : Rises (map (λ (s : Stream). s.number) ss) → BlockRules ss (block_plan block ss)
  unfolding block_plan
  block_rules numbers =
      let order : List ℕ = ordered_of block ss in
      let d : Distinct (ordered_of block ss) = distinct_perm (ordered_perm block ss) (rises_distinct rises) in
      record {
        least = ordered_least;
        first = ordered_first;
        rising = torn_rises order ss numbers;
        torn = λ n. (
          λ m. let r = (torn_listed order ss n).0 m in (r.0, r.1, r.2, (torn_is order d r.0).0 r.3),
          λ r. (torn_listed order ss n).1 (r.0, r.1, r.2, (torn_is order d r.0).1 r.3),
        );
      }
