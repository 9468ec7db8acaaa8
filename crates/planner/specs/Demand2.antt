-- Demand 2: the plan is the one the rules fix, in unit numbers. A reader who believes rules 1 to 4 believes this file: `Rules us ss plan` says of
-- a plan for the units us and the streams ss what the rules say of it. That the planner's plan is of this kind, and is the only one that is, is in
-- proofs/Demand2.antt.
use Rattle.std.specs.Prelude.{cond, ◌↔◌, ◌≡◌, ℕ, ◌+◌, ◌≤◌, ◌<◌}
use mathlib.Core.List.{List, [], ◌∷◌, ◌++◌, Memᴰ}
use Rattle.blocks.specs.Links.{SameBlock}
use Rattle.flowsheet.specs.declared.Stream.{Stream}
use Rattle.tearing.specs.Order.{Perm, Lex}
use Rattle.planner.specs.Plan.{BlockPlan, is_torn}
use Rattle.planner.specs.Tables.{order_table}

-- a stream leads from the unit u to the unit v: "through units only. Outside is no unit."
pub record Feeds (us : List ℕ) (ss : List Stream) (u v : ℕ) : Type 0 where
  pub source : Memᴰ u us
  pub receiver : Memᴰ v us
  pub stream : Stream
  pub held : Memᴰ stream ss
  pub leaves : stream.source ≡ u
  pub enters : stream.receiver ≡ v

-- u stands before v in an order
pub record StandsBefore (order : List ℕ) (u v : ℕ) : Type 0 where
  pub front : List ℕ
  pub back : List ℕ
  pub split : order ≡ front ++ (u ∷ back)
  pub later : Memᴰ v back

-- rule 2: "the streams with both ends in the block whose source doesn't stand before their receiver"
pub record Torn (order : List ℕ) (s : Stream) : Type 0 where
  pub source : Memᴰ s.source order
  pub receiver : Memᴰ s.receiver order
  pub back : StandsBefore order s.source s.receiver → ⊥

-- the total weight of the torn streams of an order (`is_torn` tests for `Torn`: proofs/TornStreams.antt)
abbrev pub torn_weight : List Stream → List ℕ → ℕ
torn_weight [] order = 0
torn_weight (s ∷ ss) order = cond (is_torn order s) s.weight 0 + torn_weight ss order

-- a list of numbers that rises
pub data Rises : List ℕ → Type 0 where
  none : Rises []
  more : {n : ℕ} {l : List ℕ} → ((m : ℕ) → Memᴰ m l → n < m) → Rises l → Rises (n ∷ l)

-- rules 2 and 3, of one block
pub record BlockRules (ss : List Stream) (b : BlockPlan) : Type 0 where
  -- "the least total weight over all orders of that block"
  pub least : (p : List ℕ) → Perm b.units p → torn_weight ss b.units ≤ torn_weight ss p
  -- "Where several have, it is the first of them, compared unit by unit, lower number first"
  pub first : (p : List ℕ) → Perm b.units p → torn_weight ss p ≡ torn_weight ss b.units → Lex b.units p
  -- its torn streams, by number, rising
  pub rising : Rises b.torn
  pub torn : (n : ℕ) → Memᴰ n b.torn ↔ ((s : Stream) × Memᴰ s ss × (s.number ≡ n) × Torn b.units s)

-- the unit u is of one of these blocks
abbrev pub Placed : List BlockPlan → ℕ → Type 0
Placed bs u = Memᴰ u (order_table bs)

-- rule 4, of a block b and the blocks that are placed before it: "incoming streams from other blocks all come from placed blocks"
abbrev pub Fed : List ℕ → List Stream → List BlockPlan → BlockPlan → Type 0
Fed us ss placed b = (u v : ℕ) → Feeds us ss u v → Memᴰ v b.units → (Memᴰ u b.units → ⊥) → Placed placed u

-- b holds a unit that is below all units of c
pub record Lower (b c : BlockPlan) : Type 0 where
  pub unit : ℕ
  pub of : Memᴰ unit b.units
  pub below : (v : ℕ) → Memᴰ v c.units → unit < v

-- rules 1 to 4, of the whole plan
pub record Rules (us : List ℕ) (ss : List Stream) (plan : List BlockPlan) : Type 0 where
  -- each unit stands in the plan once, and nothing else does
  pub all : (u : ℕ) → Memᴰ u us → Placed plan u
  pub only : (u : ℕ) → Placed plan u → Memᴰ u us
  pub once : (front back : List ℕ) (u : ℕ) → order_table plan ≡ front ++ (u ∷ back) → Memᴰ u (front ++ back) → ⊥
  -- no block is empty
  pub some : (b : BlockPlan) → Memᴰ b plan → (u : ℕ) × Memᴰ u b.units
  -- rule 1: "Two units share a block when they are the same unit or each reaches the other"
  pub share : (b : BlockPlan) → Memᴰ b plan → (u : ℕ) → Memᴰ u b.units → (v : ℕ) → Memᴰ v us
      → Memᴰ v b.units ↔ SameBlock (Feeds us ss) u v
  -- rules 2 and 3
  pub blocks : (b : BlockPlan) → Memᴰ b plan → BlockRules ss b
  -- rule 4: each block's feeds are placed before it, and of the blocks not placed whose feeds are, it holds the lowest unit
  pub fed : (front back : List BlockPlan) (b : BlockPlan) → plan ≡ front ++ (b ∷ back) → Fed us ss front b
  pub lowest : (front back : List BlockPlan) (b : BlockPlan) → plan ≡ front ++ (b ∷ back)
      → (c : BlockPlan) → Memᴰ c back → Fed us ss front c → Lower b c

-- "untorn streams run forward": a stream between two units that is torn in no block leaves an earlier unit and enters a later one, in the
-- whole order
abbrev pub Forward : List ℕ → List Stream → List BlockPlan → Type 0
Forward us ss plan =
    (s : Stream) → Memᴰ s ss → Memᴰ s.source us → Memᴰ s.receiver us
    → ((b : BlockPlan) → Memᴰ b plan → Torn b.units s → ⊥)
    → StandsBefore (order_table plan) s.source s.receiver
