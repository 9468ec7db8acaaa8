-- A block's plan goes by the streams with both ends in the block alone: no other adds to its weights, and no other is torn in it. Assumes
-- nothing.
use mathlib.Core.Bool.{Bool, true, false, cond, ◌&&◌, true≢false}
use mathlib.Core.List.{List, [], ◌∷◌, ◌++◌, Memᴰ}
use mathlib.Core.Logic.{◌⊎◌, inl, inr}
use mathlib.Core.Path.{◌≡◌, refl, sym, ap, ap₂, ◌∙◌}
use Prim.Native.Nat.{ℕ}
use lib.ListN.{replicate}
use Rattle.flowsheet.specs.Sheet.{place_of}
use Rattle.std.specs.Prelude.{Option, Some, None, is_some}
use Rattle.flowsheet.specs.declared.Stream.{Stream}
use Rattle.planner.specs.Plan.{charge_at, charged, charged_all, row_of, ordered_of, is_torn, torn_of, block_plan}
use Rattle.planner.proofs.Found.{mem_found, mem_cases, not_found}
use Rattle.planner.proofs.Orders.{mem_perm, ordered_perm}
use Rattle.planner.proofs.TornStreams.{torn_source, torn_receiver}

-- both ends of the stream are in the block
abbrev pub inside : List ℕ → Stream → Bool
inside block s = is_some (place_of block s.source) && is_some (place_of block s.receiver)

-- the streams with both ends in the block, in their order
abbrev pub inside_of : List ℕ → List Stream → List Stream
inside_of block [] = []
inside_of block (s ∷ ss) = cond (inside block s) (s ∷ inside_of block ss) (inside_of block ss)

inside_ends : (block : List ℕ) (s : Stream) → Memᴰ s.source block → Memᴰ s.receiver block → inside block s ≡ true
inside_ends block s p q = rw ((mem_found block s.source p).1, (mem_found block s.receiver q).1)

outside_ends : (block : List ℕ) (s : Stream) → (Memᴰ s.source block → Memᴰ s.receiver block → ⊥) → inside block s ≡ false
outside_ends block s f = go (mem_cases block s.source) (mem_cases block s.receiver)
  where
    go : Memᴰ s.source block ⊎ (Memᴰ s.source block → ⊥)
        → Memᴰ s.receiver block ⊎ (Memᴰ s.receiver block → ⊥) → inside block s ≡ false
    go (inl p) (inl q) = absurd (f p q)
    go (inl p) (inr n) = rw ((mem_found block s.source p).1, not_found block s.receiver n)
    go (inr n) q = rw (not_found block s.source n)

-- ---- the weights

charge_outside : (p q : Option ℕ) (x : ℕ) (w : List ℕ) → (is_some p && is_some q) ≡ false → charge_at p q x w ≡ w
charge_outside (Some i) (Some j) x w e = absurd (true≢false e)
charge_outside (Some i) None x w e = refl
charge_outside None q x w e = refl

charged_inside : (block : List ℕ) (ss : List Stream) (w : List ℕ) → charged_all block w ss ≡ charged_all block w (inside_of block ss)
unfolding charged
charged_inside block [] w = refl
charged_inside block (s ∷ ss) w = go (inside block s) refl (charged_inside block ss)
  where
    go : (t : Bool) → inside block s ≡ t → ((v : List ℕ) → charged_all block v ss ≡ charged_all block v (inside_of block ss))
        → charged_all block (charged block w s) ss ≡ charged_all block w (cond t (s ∷ inside_of block ss) (inside_of block ss))
    go true e rest = rest (charged block w s)
    go false e rest =
        ap (λ (v : List ℕ). charged_all block v ss) (charge_outside (place_of block s.source) (place_of block s.receiver) s.weight w e)
        ∙ rest w

pub row_inside : (block : List ℕ) (ss : List Stream) → row_of block ss ≡ row_of block (inside_of block ss)
unfolding row_of
row_inside block ss = charged_inside block ss (replicate 144 0)

pub ordered_inside : (block : List ℕ) (ss : List Stream) → ordered_of block ss ≡ ordered_of block (inside_of block ss)
unfolding ordered_of
ordered_inside block ss = rw (← row_inside block ss)

-- ---- the torn streams

-- a stream with an end outside the block isn't torn by an order of it
untorn_outside : (block order : List ℕ) → ((u : ℕ) → Memᴰ u order → Memᴰ u block) → (s : Stream) → inside block s ≡ false
    → is_torn order s ≡ false
untorn_outside block order within s e = go (is_torn order s) refl
  where
    go : (t : Bool) → is_torn order s ≡ t → t ≡ false
    go true h =
        absurd
        (true≢false
        (sym (inside_ends block s (within s.source (torn_source order s h)) (within s.receiver (torn_receiver order s h))) ∙ e))
    go false h = refl

torn_inside : (block order : List ℕ) → ((u : ℕ) → Memᴰ u order → Memᴰ u block) → (ss : List Stream)
    → torn_of order ss ≡ torn_of order (inside_of block ss)
unfolding torn_of
torn_inside block order within [] = refl
torn_inside block order within (s ∷ ss) = go (inside block s) refl (torn_inside block order within ss)
  where
    go : (t : Bool) → inside block s ≡ t → torn_of order ss ≡ torn_of order (inside_of block ss)
        → cond (is_torn order s) (s.number ∷ torn_of order ss) (torn_of order ss) ≡ torn_of order (cond t (s ∷ inside_of block ss) (inside_of block ss))
    go true e rest = ap (λ (l : List ℕ). cond (is_torn order s) (s.number ∷ l) l) rest
    go false e rest = rw (untorn_outside block order within s e) rest

-- ---- the block's plan

pub plan_inside : (block : List ℕ) (ss : List Stream) → block_plan block ss ≡ block_plan block (inside_of block ss)
unfolding block_plan
plan_inside block ss =
    let order = ordered_inside block ss in
    ap₂ (λ (x y : List ℕ). record { units = x; torn = y }) order
    (torn_inside block (ordered_of block ss) (mem_perm (ordered_perm block ss)) ss
    ∙ ap (λ (o : List ℕ). torn_of o (inside_of block ss)) order)

-- Where two flowsheets have the same streams with both ends in a block, in the same order, the block has the same plan.
pub plan_same : (block : List ℕ) (ss ts : List Stream) → inside_of block ss ≡ inside_of block ts → block_plan block ss ≡ block_plan block ts
plan_same block ss ts e =
    plan_inside block ss ∙ ap (block_plan block) e ∙ sym (plan_inside block ts)

-- ---- a stream more or less

inside_append : (block : List ℕ) (ss ts : List Stream) → inside_of block (ss ++ ts) ≡ inside_of block ss ++ inside_of block ts
inside_append block [] ts = refl
inside_append block (s ∷ ss) ts = go (inside block s) (inside_append block ss ts)
  where
    go : (t : Bool) → inside_of block (ss ++ ts) ≡ inside_of block ss ++ inside_of block ts
        → cond t (s ∷ inside_of block (ss ++ ts)) (inside_of block (ss ++ ts)) ≡ cond t (s ∷ inside_of block ss) (inside_of block ss) ++ inside_of block ts
    go true e = ap (λ (l : List Stream). s ∷ l) e
    go false e = e

-- A stream with an end outside the block may be taken away or added, and the block keeps its plan.
pub plan_without : (block : List ℕ) (front back : List Stream) (s : Stream)
    → (Memᴰ s.source block → Memᴰ s.receiver block → ⊥) → block_plan block (front ++ (s ∷ back)) ≡ block_plan block (front ++ back)
plan_without block front back s f =
    plan_same block (front ++ (s ∷ back)) (front ++ back)
    (inside_append block front (s ∷ back)
    ∙ ap (λ (t : Bool). inside_of block front ++ cond t (s ∷ inside_of block back) (inside_of block back)) (outside_ends block s f)
    ∙ sym (inside_append block front back))
