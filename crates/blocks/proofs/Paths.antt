-- Paths and blocks over any relation of links. Reach is transitive, being of one block is an equivalence, more links never split a
-- block; and where one link is added, a path that uses it puts both its ends into the block that the path runs in. Assumes nothing.
use mathlib.Core.Path.{◌≡◌, refl, sym, ap, subst}
use mathlib.Core.Logic.{◌⊎◌, inl, inr, ⊎_elim, ◌↔◌}
use Prim.Native.Nat.{ℕ}
use Rattle.blocks.specs.Links.{Path, link, onward, SameBlock}

-- places of one relation carried to places of another, its links to links
pub path_map : {L M : ℕ → ℕ → Type 0} (f : ℕ → ℕ) → ((i j : ℕ) → L i j → M (f i) (f j)) → {i j : ℕ} → Path L i j → Path M (f i) (f j)
path_map f carry (link l) = link (carry _ _ l)
path_map f carry (onward l p) = onward (carry _ _ l) (path_map f carry p)

pub same_map : {L M : ℕ → ℕ → Type 0} (f : ℕ → ℕ) → ((i j : ℕ) → L i j → M (f i) (f j)) → {i j : ℕ} → SameBlock L i j → SameBlock M (f i) (f j)
same_map f carry (inl e) = inl (ap f e)
same_map f carry (inr s) = inr (path_map f carry s.0, path_map f carry s.1)

-- more links take no path away
pub path_more : {L M : ℕ → ℕ → Type 0} → ((i j : ℕ) → L i j → M i j) → {i j : ℕ} → Path L i j → Path M i j
path_more more p = path_map (λ i. i) more p

-- nor do they split a block
pub same_more : {L M : ℕ → ℕ → Type 0} → ((i j : ℕ) → L i j → M i j) → {i j : ℕ} → SameBlock L i j → SameBlock M i j
same_more more s = same_map (λ i. i) more s

-- i is j or reaches it
abbrev pub To : (ℕ → ℕ → Type 0) → ℕ → ℕ → Type 0
To L i j = (i ≡ j) ⊎ Path L i j

module _ {L : ℕ → ℕ → Type 0} where
  pub path_trans : {i j k : ℕ} → Path L i j → Path L j k → Path L i k
  path_trans (link l) q = onward l q
  path_trans (onward l p) q = onward l (path_trans p q)

  pub path_to : {i j k : ℕ} → Path L i j → To L j k → Path L i k
  path_to {i} p (inl e) = subst (λ (x : ℕ). Path L i x) e p
  path_to p (inr q) = path_trans p q

  pub to_trans : {i j k : ℕ} → To L i j → To L j k → To L i k
  to_trans {k = k} (inl e) q = subst (λ (x : ℕ). To L x k) (sym e) q
  to_trans (inr p) q = inr (path_to p q)

  pub both_same : {i j : ℕ} → To L i j → To L j i → SameBlock L i j
  both_same (inl e) q = inl e
  both_same (inr p) (inl e) = inl (sym e)
  both_same (inr p) (inr q) = inr (p, q)

  pub same_to : {i j : ℕ} → SameBlock L i j → To L i j
  same_to (inl e) = inl e
  same_to (inr s) = inr s.0

  pub same_refl : (i : ℕ) → SameBlock L i i
  same_refl i = inl refl

  pub same_sym : {i j : ℕ} → SameBlock L i j → SameBlock L j i
  same_sym (inl e) = inl (sym e)
  same_sym (inr s) = inr (s.1, s.0)

  pub same_trans : {i j k : ℕ} → SameBlock L i j → SameBlock L j k → SameBlock L i k
  same_trans r s =
      both_same (to_trans (same_to r) (same_to s)) (to_trans (same_to (same_sym s)) (same_to (same_sym r)))

-- M has the links of L, and perhaps one from a to b besides.
module _ {L M : ℕ → ℕ → Type 0} (a b : ℕ) (more : (i j : ℕ) → L i j → M i j)
    (only : (i j : ℕ) → M i j → L i j ⊎ ((i ≡ a) × (j ≡ b))) where
  abbrev Uses : ℕ → ℕ → Type 0
  Uses i j = To M i a × M a b × To M b j

  uses_onward : {i k j : ℕ} → M i k → Path M k j → Path L k j ⊎ Uses k j → L i k ⊎ ((i ≡ a) × (k ≡ b)) → Path L i j ⊎ Uses i j
  uses_onward l p (inl q) (inl x) = inl (onward x q)
  uses_onward l p (inr u) (inl x) = inr (inr (path_to (link l) u.0), u.1, u.2)
  uses_onward {i} {k} {j} l p r (inr e) =
      inr (
        inl e.0,
        subst (λ (x : ℕ). M x b) e.0 (subst (λ (x : ℕ). M i x) e.1 l),
        inr (subst (λ (x : ℕ). Path M x j) e.1 p),
      )

  uses_link : {i j : ℕ} → M i j → L i j ⊎ ((i ≡ a) × (j ≡ b)) → Path L i j ⊎ Uses i j
  uses_link l (inl x) = inl (link x)
  uses_link {i} l (inr e) =
      inr (inl e.0, subst (λ (x : ℕ). M x b) e.0 (subst (λ (x : ℕ). M i x) e.1 l), inl (sym e.1))

  -- a path either is one of L's or uses the link
  uses : {i j : ℕ} → Path M i j → Path L i j ⊎ Uses i j
  uses (link l) = uses_link l (only _ _ l)
  uses (onward l p) = uses_onward l p (uses p) (only _ _ l)

  -- the block of i doesn't hold both ends of the link
  abbrev pub Apart : ℕ → Type 0
  Apart i = SameBlock M i a → SameBlock M i b → ⊥

  apart_same : {i j : ℕ} → Apart i → SameBlock M i j → Apart j
  apart_same f s x y = f (same_trans s x) (same_trans s y)

  within_block : {i j : ℕ} → Apart i → SameBlock M i j → Path M i j → Path L i j
  within_block f s p =
      ⊎_elim (λ q. q)
      (λ u.
      let back = to_trans u.2 (same_to (same_sym s)) in
      let over = inr (link u.1) in
      absurd (f (both_same u.0 (to_trans over back)) (both_same (to_trans u.0 over) back)))
      (uses p)

  -- such a block is the same without the link
  pub block_kept : {i : ℕ} → Apart i → (j : ℕ) → SameBlock M i j ↔ SameBlock L i j
  block_kept {i} f j = (kept, same_more more)
    where
      kept : SameBlock M i j → SameBlock L i j
      kept (inl e) = inl e
      kept (inr s) = inr (within_block f (inr s) s.0, within_block (apart_same f (inr s)) (inr (s.1, s.0)) s.1)

  -- and so is who in it reaches whom
  pub reach_kept : {i : ℕ} → Apart i → (j k : ℕ) → SameBlock M i j → SameBlock M i k → Path M j k ↔ Path L j k
  reach_kept f j k r s = (within_block (apart_same f r) (same_trans (same_sym r) s), path_more more)

  -- a link whose two ends are not in one block may be taken away, and every block stays
  pub blocks_stay : (SameBlock M a b → ⊥) → (i j : ℕ) → SameBlock M i j ↔ SameBlock L i j
  blocks_stay f i = block_kept (λ x y. f (same_trans (same_sym x) y))
