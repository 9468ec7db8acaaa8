-- A plan as the tables of its image: "A block record is: first place in the order table (from 0), number of units, number torn in the
-- blocks before it (its first place in the torn table), number torn. Order table: U unit numbers. Torn table: stream numbers, block by
-- block, rising within a block."
use Rattle.std.specs.Prelude.{List, [], ◌∷◌, ◌++◌, ℕ, ◌+◌, length}
use Rattle.planner.specs.Plan.{BlockPlan}
use Rattle.planner.specs.declared.Plan.{Plan}

abbrev pub order_table : List BlockPlan → List ℕ
order_table [] = []
order_table (b ∷ bs) = b.units ++ order_table bs

abbrev pub torn_table : List BlockPlan → List ℕ
torn_table [] = []
torn_table (b ∷ bs) = b.torn ++ torn_table bs

-- the block table of blocks that follow `first` units and `before` torn streams
abbrev pub records_from : ℕ → ℕ → List BlockPlan → List ℕ
records_from first before [] = []
records_from first before (b ∷ bs) =
    first ∷ length b.units ∷ before ∷ length b.torn ∷ records_from (first + length b.units) (before + length b.torn) bs

unfoldable pub block_table : List BlockPlan → List ℕ
block_table bs = records_from 0 0 bs

unfoldable pub plan_value : List BlockPlan → Plan
plan_value bs = record { blocks = block_table bs; order = order_table bs; torn = torn_table bs }

-- a plan with one block more
unfoldable pub with_block : Plan → BlockPlan → Plan
with_block p b =
    record {
      blocks = p.blocks ++ (length p.order ∷ length b.units ∷ length p.torn ∷ length b.torn ∷ []);
      order = p.order ++ b.units;
      torn = p.torn ++ b.torn;
    }
