-- The tables of a plan tell its blocks: where each block begins and how many units it has is in the block table, so two lists of blocks with
-- the same tables are one. Assumes nothing.
use mathlib.Core.List.{List, [], ◌∷◌, ◌++◌}
use mathlib.Core.Path.{◌≡◌, refl, sym, ap, ap₂, ◌∙◌}
use Prim.Native.Nat.{ℕ, ◌+◌}
use lib.ListN.{length, take, drop}
use lib.Seq.{take-append_seam, drop-append_seam}
use Rattle.planner.specs.Plan.{BlockPlan}
use Rattle.planner.specs.Tables.{order_table, torn_table, records_from, block_table, plan_value}
use Rattle.planner.specs.declared.Plan.{Plan}

-- lists that are equal with more behind them, and as long, are equal, and so is what is behind them
same_front : (a b c d : List ℕ) → length a ≡ length c → a ++ b ≡ c ++ d → (a ≡ c) × (b ≡ d)
same_front a b c d n e = (
  sym (take-append_seam a b) ∙ ap₂ (λ (k : ℕ) (l : List ℕ). take k l) n e ∙ take-append_seam c d,
  sym (drop-append_seam a b) ∙ ap₂ (λ (k : ℕ) (l : List ℕ). drop k l) n e ∙ drop-append_seam c d,
)

same_blocks : (first before : ℕ) (p q : List BlockPlan) → records_from first before p ≡ records_from first before q
    → order_table p ≡ order_table q → torn_table p ≡ torn_table q → p ≡ q
same_blocks first before [] [] r o t = refl
same_blocks first before [] (c ∷ q) r o t = cc
same_blocks first before (b ∷ p) [] r o t = cc
same_blocks first before (b ∷ p) (c ∷ q) r o t =
    let n : length b.units ≡ length c.units = cc in
    let m : length b.torn ≡ length c.torn = cc in
    let us = same_front b.units (order_table p) c.units (order_table q) n o in
    let ts = same_front b.torn (torn_table p) c.torn (torn_table q) m t in
    let rest :
    records_from (first + length b.units) (before + length b.torn) p
    ≡ records_from (first + length b.units) (before + length b.torn) q =
    cc in
    let behind = same_blocks (first + length b.units) (before + length b.torn) p q rest us.1 ts.1 in
    ap₂ (λ (x : BlockPlan) (l : List BlockPlan). x ∷ l)
    (ap₂ (λ (u v : List ℕ). record { units = u; torn = v }) us.0 ts.0) behind

-- Two lists of blocks with one plan as their tables are one list.
pub one_list : (p q : List BlockPlan) → plan_value p ≡ plan_value q → p ≡ q
unfolding plan_value block_table
one_list p q e =
    same_blocks 0 0 p q (ap (λ (x : Plan). x.blocks) e) (ap (λ (x : Plan). x.order) e) (ap (λ (x : Plan). x.torn) e)
