-- As long as a place is left, a block is ready. One pass over the places keeps one that isn't placed and that no place passed so far
-- reaches without being reached by it: of two such the pass takes the one that reaches the other. Assumes nothing.
use mathlib.Core.Path.{◌≡◌}
use mathlib.Core.Logic.{◌⊎◌, inl, inr, ⊎_elim}
use mathlib.Core.List.{List, [], ◌∷◌, ◌++◌}
use Prim.Native.Nat.{ℕ, zero, suc, ◌<◌}
use native.Mathlib.Omega.{arith}
use native.Mathlib.Decide.{ℕ_discrete}
use Rattle.blocks.specs.Links.{Path, link, onward, SameBlock}
use Rattle.blocks.specs.Rule4.{Placed, here, there, Ready}
use Rattle.blocks.proofs.Below.{each}
use Rattle.blocks.proofs.Paths.{To, to_trans, both_same, same_to, same_sym}
use Rattle.blocks.proofs.Rule4.{placed_left, placed_last, placed_either}

-- what feeds the blocks listed is listed
abbrev pub Fed : (ℕ → ℕ → Type 0) → List ℕ → Type 0
Fed L done = (a b : ℕ) → L a b → Placed L b done → Placed L a done

pub fed_none : {L : ℕ → ℕ → Type 0} → Fed L []
fed_none a b l p = elim p [ ]

module _ {L : ℕ → ℕ → Type 0} (path? : (i j : ℕ) → Dec (Path L i j)) where
  to? : (i j : ℕ) → Dec (To L i j)
  to? i j = elim (ℕ_discrete i j) [ yes e ↦ yes (inl e) | no f ↦ go f (path? i j) ]
    where
      go : (i ≡ j → ⊥) → Dec (Path L i j) → Dec (To L i j)
      go f (yes p) = yes (inr p)
      go f (no g) = no (⊎_elim f g)

  pub same? : (i j : ℕ) → Dec (SameBlock L i j)
  same? i j = go (to? i j) (to? j i)
    where
      go : Dec (To L i j) → Dec (To L j i) → Dec (SameBlock L i j)
      go (yes p) (yes q) = yes (both_same p q)
      go (no f) q = no (λ s. f (same_to s))
      go (yes p) (no g) = no (λ s. g (same_to (same_sym s)))

  placed_cons : {i j : ℕ} {done : List ℕ} → Placed L j (i ∷ done) → SameBlock L i j ⊎ Placed L j done
  placed_cons (here s) = inl s
  placed_cons (there p) = inr p

  pub placed? : (j : ℕ) (done : List ℕ) → Dec (Placed L j done)
  placed? j [] = no (λ p. elim p [ ])
  placed? j (i ∷ done) = go (same? i j) (placed? j done)
    where
      go : Dec (SameBlock L i j) → Dec (Placed L j done) → Dec (Placed L j (i ∷ done))
      go (yes s) q = yes (here s)
      go (no f) (yes p) = yes (there p)
      go (no f) (no g) = no (λ p. ⊎_elim f g (placed_cons p))

  -- i isn't placed, and of the places below k that aren't placed it reaches those that reach it
  record Source (done : List ℕ) (k i : ℕ) : Type 0 where
    below : i < k
    left : Placed L i done → ⊥
    back : (j : ℕ) → j < k → (Placed L j done → ⊥) → To L j i → To L i j

  source_taken : {done : List ℕ} {k i : ℕ} → Source done k i → (Placed L k done → ⊥) → To L k i → Source done (suc k) k
  source_taken {done} {k} s f r =
      record {
        below = omega arith;
        left = f;
        back =
            each (λ (j : ℕ). (Placed L j done → ⊥) → To L j k → To L k j) k
            (λ j h u t. to_trans r (s.back j h u (to_trans t r)))
            (λ u t. t);
      }

  source_kept : {done : List ℕ} {k i : ℕ} → Source done k i → ((Placed L k done → ⊥) → To L k i → ⊥) → Source done (suc k) i
  source_kept {done} {k} {i} s f =
      record {
        below = omega (arith, s.below);
        left = s.left;
        back =
            each (λ (j : ℕ). (Placed L j done → ⊥) → To L j i → To L i j) k s.back (λ u t. absurd (f u t));
      }

  source_first : {done : List ℕ} {k : ℕ} → ((j : ℕ) → j < k → Placed L j done) → (Placed L k done → ⊥) → Source done (suc k) k
  source_first {done} {k} all f =
      record {
        below = omega arith;
        left = f;
        back =
            each (λ (j : ℕ). (Placed L j done → ⊥) → To L j k → To L k j) k (λ j h u t. absurd (u (all j h))) (λ u t. t);
      }

  abbrev Scanned : List ℕ → ℕ → Type 0
  Scanned done k = ((j : ℕ) → j < k → Placed L j done) ⊎ ((i : ℕ) × Source done k i)

  scan : (done : List ℕ) (k : ℕ) → Scanned done k
  scan done zero = inl (λ j h. absurd (omega arith))
  scan done (suc k) = go (scan done k) (placed? k done)
    where
      met : {i : ℕ} → Source done k i → (Placed L k done → ⊥) → Dec (To L k i) → Scanned done (suc k)
      met s f (yes r) = inr (k, source_taken s f r)
      met {i} s f (no g) = inr (i, source_kept s (λ u t. g t))

      go : Scanned done k → Dec (Placed L k done) → Scanned done (suc k)
      go (inl all) (yes p) = inl (each (λ (j : ℕ). Placed L j done) k all p)
      go (inl all) (no f) = inr (k, source_first all f)
      go (inr s) (yes p) = inr (s.0, source_kept s.1 (λ u t. u p))
      go (inr s) (no f) = met s.1 f (to? k s.0)

  -- As long as a place is left, some block is ready.
  pub ready_exists : (n : ℕ) → ((a b : ℕ) → L a b → a < n) → (done : List ℕ) (j : ℕ) → j < n → (Placed L j done → ⊥) → (i : ℕ) × Ready L n done i
  ready_exists n inside done j h f = go (scan done n)
    where
      ready : {i : ℕ} → Source done n i → Ready L n done i
      ready {i} s =
          record {
            known = s.below;
            left = s.left;
            fed = λ a b l x y.
                let t = to_trans (inr (link l)) (same_to (same_sym x)) in
                elim (placed? a done) [ yes p ↦ p | no g ↦ absurd (y (both_same (s.back a (inside a b l) g t) t)) ];
          }

      go : Scanned done n → (i : ℕ) × Ready L n done i
      go (inl all) = absurd (f (all j h))
      go (inr s) = (s.0, ready s.1)

  -- ---- what feeds the placed blocks stays placed

  pub fed_more : {n i : ℕ} {done : List ℕ} → Fed L done → Ready L n done i → Fed L (done ++ (i ∷ []))
  fed_more {n} {i} {done} c r a b l p = ⊎_elim (λ q. placed_left (i ∷ []) (c a b l q)) new (placed_either done p)
    where
      new : SameBlock L i b → Placed L a (done ++ (i ∷ []))
      new s = elim (same? i a) [ yes x ↦ placed_last done x | no f ↦ placed_left (i ∷ []) (r.fed a b l s f) ]

  -- by paths as by links: whoever reaches a ready block is of it or is placed
  pub fed_path : {n i : ℕ} {done : List ℕ} → Fed L done → Ready L n done i → {j k : ℕ} → Path L j k → SameBlock L i k → (SameBlock L i j → ⊥) → Placed L j done
  fed_path c r (link {i = j} {j = k} l) s f = r.fed j k l s f
  fed_path {i = i} c r (onward {i = j} {j = m} l p) s f =
      elim (same? i m) [ yes x ↦ r.fed j m l x f | no g ↦ c j m l (fed_path c r p s g) ]
