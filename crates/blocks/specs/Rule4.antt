-- Rule 4 in its own words, over any relation `L` of direct links among the places below n. A block is named by one of its places;
-- `done` lists those of the blocks placed so far, in their order.
use Rattle.std.specs.Prelude.{◌≡◌, List, [], ◌∷◌, ◌++◌, ℕ, ◌≤◌, ◌<◌}
use Rattle.blocks.specs.Links.{SameBlock}

-- The block of j is one of those listed.
pub data Placed (L : ℕ → ℕ → Type 0) (j : ℕ) : List ℕ → Type 0 where
  here : {i : ℕ} {done : List ℕ} → SameBlock L i j → Placed L j (i ∷ done)
  there : {i : ℕ} {done : List ℕ} → Placed L j done → Placed L j (i ∷ done)

-- "Blocks not yet placed whose incoming streams from other blocks all come from placed blocks": i is of such a block.
pub record Ready (L : ℕ → ℕ → Type 0) (n : ℕ) (done : List ℕ) (i : ℕ) : Type 0 where
  pub known : i < n
  pub left : Placed L i done → ⊥
  pub fed : (a b : ℕ) → L a b → SameBlock L i b → (SameBlock L i a → ⊥) → Placed L a done

-- "Take the one holding the lowest unit number."
pub record Next (L : ℕ → ℕ → Type 0) (n : ℕ) (done : List ℕ) (i : ℕ) : Type 0 where
  pub ready : Ready L n done i
  pub lowest : (j : ℕ) → Ready L n done j → i ≤ j

-- "Repeat", until all are placed: what stands in the order after `done`.
pub data Follows (L : ℕ → ℕ → Type 0) (n : ℕ) : List ℕ → List ℕ → Type 0 where
  end : {done : List ℕ} → ((j : ℕ) → j < n → Placed L j done) → Follows L n done []
  next : {i : ℕ} {done rest : List ℕ} → Next L n done i → Follows L n (done ++ (i ∷ [])) rest → Follows L n done (i ∷ rest)

-- The blocks in the order of rule 4, each by its lowest place.
abbrev pub Rule4 : (ℕ → ℕ → Type 0) → ℕ → List ℕ → Type 0
Rule4 L n order = Follows L n [] order

-- j is in exactly one of the blocks of the order o, which stands there by its lowest place.
pub record Once (L : ℕ → ℕ → Type 0) (n : ℕ) (o : List ℕ) (j : ℕ) : Type 0 where
  pub place : ℕ
  pub before : List ℕ
  pub after : List ℕ
  pub split : o ≡ before ++ (place ∷ after)
  pub same : SameBlock L place j
  pub not_before : Placed L j before → ⊥
  pub not_after : Placed L j after → ⊥
  pub known : place < n
  pub lowest : (k : ℕ) → k < n → SameBlock L place k → place ≤ k

-- The block of a stands before the block of b in the order o.
pub record Before (L : ℕ → ℕ → Type 0) (o : List ℕ) (a b : ℕ) : Type 0 where
  pub front : List ℕ
  pub back : List ℕ
  pub split : o ≡ front ++ back
  pub source : Placed L a front
  pub receiver : Placed L b back
  pub apart : Placed L b front → ⊥
