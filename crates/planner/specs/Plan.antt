-- The plan of a flowsheet: rules 1 to 4, in the order in which the planner goes. A block is the list of its units' numbers.
use Rattle.std.specs.Prelude.{Bool, false, cond, not, ◌||◌, List, [], ◌∷◌, map, ℕ, ◌+◌, ◌*◌, ltb, length, get_or, set, replicate, Option, Some, None}
use Rattle.blocks.specs.Blocks.{members_of}
use Rattle.blocks.specs.Order.{order_of}
use Rattle.blocks.specs.Reach.{reach_of}
use Rattle.flowsheet.specs.Sheet.{place_of}
use Rattle.flowsheet.specs.declared.Stream.{Stream}
use Rattle.tearing.specs.Best.{best}
use Rattle.tearing.specs.Row.{weights}
use Rattle.planner.specs.Links.{links_of}

-- a block of the plan: its units in order, and its torn streams rising
pub record BlockPlan : Type 0 where
  pub units : List ℕ
  pub torn : List ℕ

-- the numbers of the units in the places ms
unfoldable pub units_in : List ℕ → List ℕ → List ℕ
units_in us ms = map (λ (p : ℕ). get_or us p 0) ms

-- ---- the weights between the units of a block, twelve by twelve

-- the row w with a stream's weight more, where both its ends are in the block
abbrev pub charge_at : Option ℕ → Option ℕ → ℕ → List ℕ → List ℕ
charge_at (Some i) (Some j) x w = set w (i * 12 + j) (get_or w (i * 12 + j) 0 + x)
charge_at (Some i) None x w = w
charge_at None q x w = w

unfoldable pub charged : List ℕ → List ℕ → Stream → List ℕ
charged block w s = charge_at (place_of block s.source) (place_of block s.receiver) s.weight w

abbrev pub charged_all : List ℕ → List ℕ → List Stream → List ℕ
charged_all block w [] = w
charged_all block w (s ∷ ss) = charged_all block (charged block w s) ss

unfoldable pub row_of : List ℕ → List Stream → List ℕ
row_of block ss = charged_all block (replicate 144 0) ss

-- ---- the block's order and its torn streams

-- the block's units in the order that tears least and, of those, comes first
unfoldable pub ordered_of : List ℕ → List Stream → List ℕ
ordered_of block ss = map (λ (i : ℕ). get_or block i 0) (best (weights (row_of block ss)) (length block))

abbrev pub torn_between : Option ℕ → Option ℕ → Bool
torn_between (Some i) (Some j) = not (ltb i j)
torn_between (Some i) None = false
torn_between None q = false

-- "the torn streams are the streams with both ends in the block whose source doesn't stand before their receiver"
unfoldable pub is_torn : List ℕ → Stream → Bool
is_torn order s = torn_between (place_of order s.source) (place_of order s.receiver)

-- the numbers of the torn streams, in the streams' order
unfoldable pub torn_of : List ℕ → List Stream → List ℕ
torn_of order [] = []
torn_of order (s ∷ ss) = cond (is_torn order s) (s.number ∷ torn_of order ss) (torn_of order ss)

unfoldable pub block_plan : List ℕ → List Stream → BlockPlan
block_plan block ss = record { units = ordered_of block ss; torn = torn_of (ordered_of block ss) ss }

-- ---- the whole

-- who reaches whom, by place
unfoldable pub reach_in : List ℕ → List Stream → List ℕ
reach_in us ss = reach_of (links_of us ss)

-- the block whose lowest unit stands in place p
unfoldable pub block_at : List ℕ → List Stream → ℕ → List ℕ
block_at us ss p = units_in us (members_of (reach_in us ss) (length us) p)

-- the lowest places of the blocks, in the blocks' order
unfoldable pub block_order : List ℕ → List Stream → List ℕ
block_order us ss = order_of (reach_in us ss) (length us)

-- "A block has at most 12 units": some block has more
abbrev pub any_over : List (List ℕ) → Bool
any_over [] = false
any_over (b ∷ bs) = ltb 12 (length b) || any_over bs

unfoldable pub blocks_of : List ℕ → List Stream → List (List ℕ)
blocks_of us ss = map (block_at us ss) (block_order us ss)

unfoldable pub too_large : List ℕ → List Stream → Bool
too_large us ss = any_over (blocks_of us ss)

unfoldable pub plan_of : List ℕ → List Stream → List BlockPlan
plan_of us ss = map (λ (b : List ℕ). block_plan b ss) (blocks_of us ss)
