-- The table of refusals where planning gives them: when an image is planned, and when it is refused with which number. 1 to 10 are those of
-- reading (flowsheet, specs/Exactly.antt). `Large` and `Answers` say so without the planner's tests; that planning answers just this is in
-- proofs/Exact.antt.
use Rattle.std.specs.Prelude.{ℕ, ◌≤◌, ◌<◌, length}
use mathlib.Core.List.{List, Memᴰ}
use Rattle.blocks.specs.Links.{SameBlock}
use Rattle.flowsheet.specs.Exactly.{Refusal, Accepted}
use Rattle.flowsheet.specs.Image.{unit_list, stream_list}
use Rattle.flowsheet.specs.declared.Stream.{Stream}
use Rattle.planner.specs.Demand2.{Feeds, Rises}
use Rattle.planner.specs.Image.{plan_length}
use Rattle.planner.specs.Plan.{plan_of}
use Rattle.planner.specs.Tables.{plan_value}

-- "a block over 12 units", in unit numbers
pub record Large (us : List ℕ) (ss : List Stream) : Type 0 where
  -- a unit of the unit table
  pub unit : ℕ
  pub known : Memᴰ unit us
  -- the units of its block; their numbers rise, so each is counted once
  pub block : List ℕ
  pub rises : Rises block
  -- "Two units share a block when they are the same unit or each reaches the other": each of these shares one with that unit
  pub shared : (v : ℕ) → Memᴰ v block → Memᴰ v us × SameBlock (Feeds us ss) unit v
  -- and whatever unit does is one of these
  pub whole : (v : ℕ) → Memᴰ v us → SameBlock (Feeds us ss) unit v → Memᴰ v block
  -- "over 12 units"
  pub over : 12 < length block

-- an image that nothing is wrong with, and whose flowsheet has no such block
pub record Plannable (image : List ℕ) : Type 0 where
  pub accepted : Accepted image
  pub small : Large (unit_list image) (stream_list image) → ⊥

-- how many bytes the plan of an image's flowsheet has, which is the one that keeps rules 1 to 4 (proofs/Demand2.antt)
abbrev pub plan_size : List ℕ → ℕ
plan_size image = plan_length (plan_value (plan_of (unit_list image) (stream_list image)))

-- What planning on an image answers, where the plan buffer has `buffer` bytes and the working memory `room`: the refusals of reading, "then 11, 12";
-- 0 where none is given.
pub data Answers (image : List ℕ) (buffer room : ℕ) : ℕ → Type 0 where
  -- 1 to 10, from reading the image
  reading : {n : ℕ} → Refusal image n → Answers image buffer room n
  -- 11, "a block over 12 units"
  large : Accepted image → Large (unit_list image) (stream_list image) → Answers image buffer room 11
  -- 12, "working memory under 65,536 bytes"
  memory : Plannable image → room < 65536 → Answers image buffer room 12
  -- 12, "plan buffer shorter than the plan"
  short : Plannable image → 65536 ≤ room → buffer < plan_size image → Answers image buffer room 12
  -- none of these
  planned : Plannable image → 65536 ≤ room → plan_size image ≤ buffer → Answers image buffer room 0
