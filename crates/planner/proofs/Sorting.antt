-- The loops over the blocks in their order, one block further each turn. Assumes nothing.
use mathlib.Core.Bool.{true, false}
use mathlib.Core.List.{List, [], ◌∷◌, ◌++◌, map, Memᴰ, append_assoc, append-nil}
use mathlib.Core.Path.{◌≡◌, refl, sym, ap, ◌∙◌, subst}
use Prim.Native.Nat.{ℕ, zero, suc, ◌+◌, ◌≤◌, ◌<◌}
use native.Mathlib.Numerals.{add-one}
use native.Mathlib.Omega.{arith}
use borrow.Author.Tests.{lt-ltb, le-ltb}
use lib.ListN.{length, length-append, get_or, take, drop, take-append-drop, length-map, drop_of_length-le}
use lib.Seq.{drop-cons, length-take-le, take_all}
use Rattle.blocks.specs.Blocks.{members_of}
use Rattle.blocks.specs.Order.{order_of}
use Rattle.blocks.specs.declared.Reach.{Reach}
use Rattle.flowsheet.specs.declared.Flowsheet.{Flowsheet}
use Rattle.flowsheet.specs.declared.Stream.{Stream}
use Rattle.blocks.proofs.OrderOf.{order_below}
use Rattle.planner.specs.Answer.{Sorted}
use Rattle.planner.specs.Plan.{BlockPlan, any_over, units_in, reach_in, block_order, block_at, blocks_of, block_plan, ordered_of, torn_of, plan_of}
use Rattle.planner.specs.Tables.{order_table, torn_table, records_from, block_table, with_block, plan_value}
use Rattle.planner.specs.declared.Plan.{Plan}
use Rattle.planner.proofs.Members.{mem_at}
use Rattle.planner.proofs.Parted.{plans_of, blocks_most, blocks_small, order_lengths, records_length}
use Rattle.planner.proofs.TornStreams.{torn_front}
use Rattle.planner.proofs.Turns.{map_more, units_in-length}

-- a large block among those from place k on: the one at k, or one of the rest
pub over_here : (f : ℕ → List ℕ) (o : List ℕ) (k : ℕ) → k < length o → 12 < length (f (get_or o k 0)) → any_over (map f (drop k o)) ≡ true
over_here f o k h l = rw (drop-cons o k 0 h, lt-ltb 12 (length (f (get_or o k 0))) l)

pub over_next : (f : ℕ → List ℕ) (o : List ℕ) (k : ℕ) → k < length o → length (f (get_or o k 0)) ≤ 12
    → any_over (map f (drop k o)) ≡ any_over (map f (drop (k + 1) o))
over_next f o k h l = rw (drop-cons o k 0 h, le-ltb 12 (length (f (get_or o k 0))) l, add-one k)

pub over_none : (f : ℕ → List ℕ) (o : List ℕ) (k : ℕ) → length o ≤ k → any_over (map f (drop k o)) ≡ false
over_none f o k h = rw (drop_of_length-le o h)

-- each of the order's places is one of the places
pub place_in : (t : List ℕ) (n : ℕ) (o : List ℕ) → o ≡ order_of t n → (k : ℕ) → k < length o → get_or o k 0 < n
place_in t n o e k h =
    order_below t n (get_or o k 0) (subst (λ (l : List ℕ). Memᴰ (get_or o k 0) l) e (mem_at o k 0 h))

-- ---- a plan with one block more

torn_table_last : (bs : List BlockPlan) (b : BlockPlan) → torn_table (bs ++ (b ∷ [])) ≡ torn_table bs ++ b.torn
torn_table_last [] b = append-nil b.torn
torn_table_last (x ∷ bs) b = rw (torn_table_last bs b) (sym (append_assoc x.torn (torn_table bs) b.torn))

order_table_last : (bs : List BlockPlan) (b : BlockPlan) → order_table (bs ++ (b ∷ [])) ≡ order_table bs ++ b.units
order_table_last [] b = append-nil b.units
order_table_last (x ∷ bs) b = rw (order_table_last bs b) (sym (append_assoc x.units (order_table bs) b.units))

records_last : (bs : List BlockPlan) (b : BlockPlan) (first before : ℕ)
    → records_from first before (bs ++ (b ∷ []))
    ≡ records_from first before bs ++ ((first + length (order_table bs)) ∷ length b.units ∷ (before + length (torn_table bs)) ∷ length b.torn ∷ [])
records_last [] b first before = let e : first + 0 ≡ first = omega arith in let f : before + 0 ≡ before = omega arith in rw (e, f)
records_last (x ∷ bs) b first before =
    let e : first + length (x.units ++ order_table bs) ≡ first + length x.units + length (order_table bs) = rw length-append (omega arith) in
    let f : before + length (x.torn ++ torn_table bs) ≡ before + length x.torn + length (torn_table bs) = rw length-append (omega arith) in
    rw (e, f, records_last bs b (first + length x.units) (before + length x.torn))

pub with_block_lem : (bs : List BlockPlan) (b : BlockPlan) → with_block (plan_value bs) b ≡ plan_value (bs ++ (b ∷ []))
unfolding with_block plan_value block_table
with_block_lem bs b =
    let e : 0 + length (order_table bs) ≡ length (order_table bs) = omega arith in
    let f : 0 + length (torn_table bs) ≡ length (torn_table bs) = omega arith in
    rw (records_last bs b 0 0, order_table_last bs b, torn_table_last bs b, e, f)

-- ---- the blocks one after the other

-- the first blocks of a plan, one block further
pub plans_more : (ss : List Stream) (bs : List (List ℕ)) (k : ℕ) → k < length bs
    → plans_of ss (take (k + 1) bs) ≡ plans_of ss (take k bs) ++ (block_plan (get_or bs k []) ss ∷ [])
plans_more ss bs k h = map_more (λ (b : List ℕ). block_plan b ss) bs [] k h

at_map : {A B : Type 0} (f : A → B) (l : List A) (d : A) (e : B) (k : ℕ) → k < length l → get_or (map f l) k e ≡ f (get_or l k d)
at_map f [] d e k h = absurd (omega arith)
at_map f (x ∷ l) d e zero h = refl
at_map f (x ∷ l) d e (suc k) h = at_map f l d e k (omega arith)

-- where the loop over the blocks stands at the block k
module _ (sheet : Flowsheet) (reach : Reach) (order : List ℕ) (s : Sorted sheet reach order) where
  abbrev us : List ℕ
  us = sheet.units

  abbrev ss : List Stream
  ss = sheet.streams

  abbrev bs : List (List ℕ)
  bs = blocks_of us ss

  pub blocks_counted : length order ≡ length bs
  unfolding blocks_of
  blocks_counted = ap length s.listed ∙ sym (length-map (block_order us ss) (block_at us ss))

  pub few_blocks : length order ≤ 64
  few_blocks = omega (arith, blocks_counted, blocks_most s.sheet_good, s.sheet_good.few_units)

  module _ (k : ℕ) (h : k < length order) (place : ℕ) (at : place ≡ get_or order k 0) where
    pub place_below : place < reach.places
    unfolding block_order
    place_below = rw (s.places, at) (place_in (reach_in us ss) (length us) order s.listed k h)

    pub block_at_lem : get_or bs k [] ≡ block_at us ss place
    unfolding blocks_of
    block_at_lem =
        at_map (block_at us ss) (block_order us ss) 0 [] k (omega (arith, ap length s.listed))
        ∙ ap (λ (o : List ℕ). block_at us ss (get_or o k 0)) (sym s.listed)
        ∙ ap (block_at us ss) (sym at)

    pub block_units : units_in us (members_of reach.rows reach.places place) ≡ block_at us ss place
    unfolding block_at
    block_units =
        ap (λ (t : List ℕ). units_in us (members_of t reach.places place)) s.reached
        ∙ ap (λ (n : ℕ). units_in us (members_of (reach_in us ss) n place)) s.places

    pub block_small : length (members_of reach.rows reach.places place) ≤ 12
    block_small =
        let m = mem_at bs k [] (omega (arith, blocks_counted)) in
        let l = blocks_small us ss s.small (get_or bs k []) m in
        omega (arith, ap length block_at_lem, ap length block_units, units_in-length us (members_of reach.rows reach.places place))

    abbrev done : List BlockPlan
    done = plans_of ss (take k bs)

    abbrev this : BlockPlan
    this = block_plan (block_at us ss place) ss

    pub done_more : plans_of ss (take (k + 1) bs) ≡ done ++ (this ∷ [])
    done_more = rw (← block_at_lem) (plans_more ss bs k (omega (arith, blocks_counted)))

    split : bs ≡ take (k + 1) bs ++ drop (k + 1) bs
    split = sym (take-append-drop (k + 1) bs)

    pub records_room : length (block_table done) + 4 ≤ 256
    unfolding block_table
    records_room =
        omega
        (arith, records_length done 0 0, length-map (take k bs) (λ (b : List ℕ). block_plan b ss), length-take-le k bs (omega (arith, blocks_counted)), few_blocks)

    pub order_room : length (order_table done) + length this.units ≤ 64
    order_room =
        let good = s.sheet_good in
        omega
        (arith, order_lengths good (take (k + 1) bs) (drop (k + 1) bs) split, ap (λ (ps : List BlockPlan). length (order_table ps)) done_more, ap length (order_table_last done this), length-append (order_table done) this.units, good.few_units)

    pub torn_room : length (torn_table done) + length this.torn ≤ 256
    torn_room =
        let good = s.sheet_good in
        omega
        (arith, torn_front good (take (k + 1) bs) (drop (k + 1) bs) split, ap (λ (ps : List BlockPlan). length (torn_table ps)) done_more, ap length (torn_table_last done this), length-append (torn_table done) this.torn, good.few_streams)

    -- the plan so far has room for one block more
    module _ (plan : Plan) (so_far : plan ≡ plan_value done) where
      pub records_fit : length plan.blocks + 4 ≤ 256
      unfolding plan_value
      records_fit = rw so_far records_room

    -- and with the block's units in their order it has this one too
    module _ (plan : Plan) (so_far : plan ≡ plan_value done) (u : List ℕ)
        (is : u ≡ ordered_of (units_in us (members_of reach.rows reach.places place)) ss) where
      units_are : u ≡ this.units
      unfolding block_plan
      units_are = is ∙ ap (λ (b : List ℕ). ordered_of b ss) block_units

      torn_are : torn_of u ss ≡ this.torn
      unfolding block_plan
      torn_are = ap (λ (o : List ℕ). torn_of o ss) units_are

      pub units_fit : length plan.order + length u ≤ 256
      unfolding plan_value
      units_fit = rw (so_far, units_are) (omega (arith, order_room))

      pub torn_fits : length plan.torn + length (torn_of u ss) ≤ 256
      unfolding plan_value
      torn_fits = rw (so_far, torn_are) torn_room

      pub plan_next : with_block plan (record { units = u; torn = torn_of u ss }) ≡ plan_value (plans_of ss (take (k + 1) bs))
      plan_next =
          rw (torn_are, units_are)
          (ap (λ (p : Plan). with_block p this) so_far ∙ with_block_lem done this ∙ ap plan_value (sym done_more))

  pub all_done : (k : ℕ) → length order ≤ k → (plan : Plan) → plan ≡ plan_value (plans_of ss (take k bs)) → plan ≡ plan_value (plan_of us ss)
  unfolding plan_of
  all_done k h plan e = e ∙ ap (λ (bs : List (List ℕ)). plan_value (plans_of ss bs)) (take_all k bs (omega (arith, blocks_counted)))
