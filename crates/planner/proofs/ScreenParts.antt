-- A plan's own tables, asked by a screen: at the place of a block they give that block's units and its torn streams, and beyond the last
-- block nothing. The record of a block counts what stands before it, so the span that it gives begins where the block does. Assumes nothing.
use mathlib.Core.List.{List, [], ◌∷◌, ◌++◌, append_assoc}
use mathlib.Core.Path.{◌≡◌, refl, sym}
use Prim.Native.Nat.{ℕ, ◌+◌, ◌*◌, ◌≤◌, ◌<◌}
use native.Mathlib.Nat.{add-zero, zero-add, add_assoc}
use native.Mathlib.Omega.{arith}
use borrow.Author.Tests.{le-leb, lt-leb}
use lib.ListN.{length, get_or, length-append}
use lib.Seq.{drop_at, take_at, get_or-append-add}
use Rattle.planner.specs.Part.{span_of, part_of}
use Rattle.planner.specs.Plan.{BlockPlan}
use Rattle.planner.specs.Tables.{order_table, torn_table, records_from, block_table}
use Rattle.planner.specs.declared.Asked.{Asked}
use Rattle.planner.specs.declared.Asked.TheVariants.{Units, Tears}

order_append : (bs cs : List BlockPlan) → order_table (bs ++ cs) ≡ order_table bs ++ order_table cs
order_append [] cs = refl
order_append (b ∷ bs) cs = rw (order_append bs cs) (sym (append_assoc b.units (order_table bs) (order_table cs)))

torn-append : (bs cs : List BlockPlan) → torn_table (bs ++ cs) ≡ torn_table bs ++ torn_table cs
torn-append [] cs = refl
torn-append (b ∷ bs) cs = rw (torn-append bs cs) (sym (append_assoc b.torn (torn_table bs) (torn_table cs)))

records_append : (u t : ℕ) (bs cs : List BlockPlan)
    → records_from u t (bs ++ cs) ≡ records_from u t bs ++ records_from (u + length (order_table bs)) (t + length (torn_table bs)) cs
records_append u t [] cs = rw (add-zero u, add-zero t)
records_append u t (b ∷ bs) cs =
    rw (records_append (u + length b.units) (t + length b.torn) bs cs, length-append b.units (order_table bs), length-append b.torn (torn_table bs), add_assoc u (length b.units) (length (order_table bs)), add_assoc t (length b.torn) (length (torn_table bs)))

length_records : (u t : ℕ) (bs : List BlockPlan) → length (records_from u t bs) ≡ 4 * length bs
length_records u t [] = refl
length_records u t (b ∷ bs) = omega (arith, length_records (u + length b.units) (t + length b.torn) bs)

-- a span that begins where a part of a row does, and is as long as it
span_is : (before part after : List ℕ) → span_of (before ++ (part ++ after)) (length before) (length part) ≡ part
span_is before part after =
    let l : length before + length part ≤ length (before ++ (part ++ after)) = simp length-append (omega arith) in
    rw (le-leb _ _ l, drop_at before (part ++ after) (length before) refl, take_at part after (length part) refl)

module _ (front back : List BlockPlan) (b : BlockPlan) where
  -- the four numbers of the block's record
  record_at_lem : (k : ℕ) → get_or (block_table (front ++ (b ∷ back))) (4 * length front + k) 0
      ≡ get_or (records_from (length (order_table front)) (length (torn_table front)) (b ∷ back)) k 0
  unfolding block_table
  record_at_lem k =
      rw (records_append 0 0 front (b ∷ back), ← length_records 0 0 front, zero-add (length (order_table front)), zero-add (length (torn_table front)))
      (get_or-append-add (records_from 0 0 front) (records_from (length (order_table front)) (length (torn_table front)) (b ∷ back)) k 0)

  whole : 4 * length front + 4 ≤ length (block_table (front ++ (b ∷ back)))
  unfolding block_table
  whole = rw (length_records 0 0 (front ++ (b ∷ back)), length-append) (omega arith)

  pub units_part : part_of Units (block_table (front ++ (b ∷ back))) (order_table (front ++ (b ∷ back))) (torn_table (front ++ (b ∷ back))) (length front) ≡ b.units
  unfolding part_of
  units_part =
      let e0 = record_at_lem 0 in
      rw (le-leb _ _ whole, rw add-zero at e0, record_at_lem 1, order_append front (b ∷ back))
      (span_is (order_table front) b.units (order_table back))

  pub torn_part : part_of Tears (block_table (front ++ (b ∷ back))) (order_table (front ++ (b ∷ back))) (torn_table (front ++ (b ∷ back))) (length front) ≡ b.torn
  unfolding part_of
  torn_part =
      rw (le-leb _ _ whole, record_at_lem 2, record_at_lem 3, torn-append front (b ∷ back))
      (span_is (torn_table front) b.torn (torn_table back))

-- beyond the last block
pub no_part : (asked : Asked) (bs : List BlockPlan) (place : ℕ) → length bs ≤ place
    → part_of asked (block_table bs) (order_table bs) (torn_table bs) place ≡ []
unfolding part_of block_table
no_part asked bs place h =
    let l : length (records_from 0 0 bs) < 4 * place + 4 = rw length_records (omega arith) in
    rw (lt-leb _ _ l)
