-- The lowest free place: what the definition computes is the one below which none is free, so a search that stops at the first free
-- place finds it. Assumes nothing.
use mathlib.Core.Path.{◌≡◌, refl, sym, ap, ◌∙◌}
use mathlib.Core.Logic.{◌⊎◌, inl, inr}
use mathlib.Core.Bool.{Bool, true, false, true≢false}
use mathlib.Core.List.{List}
use Prim.Native.Nat.{ℕ, zero, suc, ◌<◌, ◌≤◌}
use native.Mathlib.Omega.{arith}
use native.Mathlib.Decide.{dec_lt}
use lib.Dec.{eqb}
use lib.ListN.{get_or}
use borrow.Author.Tests.{eq-eqb, ne_eqb, both_ways}
use Rattle.std.specs.Prelude.{Option, Some, None, unwrap_or}
use Rattle.blocks.specs.Blocks.{column_of}
use Rattle.blocks.specs.Order.{pick, free_in, free, free_at, First, lowest_free}
use Rattle.blocks.proofs.Below.{each}

bool_cases : (b : Bool) → (b ≡ true) ⊎ (b ≡ false)
bool_cases true = inl refl
bool_cases false = inr refl

-- none below k is free, or x is the lowest that is
abbrev pub Lowest : List ℕ → ℕ → ℕ → ℕ → ℕ → Type 0
Lowest t n placed k x =
    ((x ≡ n) × ((j : ℕ) → j < k → free t n placed j ≡ true → ⊥))
    ⊎ ((x < k) × (free t n placed x ≡ true) × ((j : ℕ) → j < x → free t n placed j ≡ true → ⊥))

lowest_step : (t : List ℕ) (n placed k x : ℕ) → k < n → Lowest t n placed k x → (free t n placed k ≡ true) ⊎ (free t n placed k ≡ false)
    → Lowest t n placed (suc k) (pick (eqb x n) (pick (free t n placed k) k n) x)
lowest_step t n placed k x h (inl s) (inl f) =
    rw (eq-eqb x n s.0, f) (inr (omega arith, f, s.1))
lowest_step t n placed k x h (inl s) (inr f) =
    rw (eq-eqb x n s.0, f) (inl (refl, each (λ (j : ℕ). free t n placed j ≡ true → ⊥) k s.1 (λ e. true≢false (sym e ∙ f))))
lowest_step t n placed k x h (inr s) f =
    rw (ne_eqb x n (λ e. omega (arith, s.0))) (inr (omega (arith, s.0), s.1, s.2))

pub lowest_is : (t : List ℕ) (n placed k : ℕ) → k ≤ n → Lowest t n placed k (lowest_free t n placed k)
unfolding lowest_free
lowest_is t n placed zero h = inl (refl, λ j l. absurd (omega arith))
lowest_is t n placed (suc k) h =
    lowest_step t n placed k (lowest_free t n placed k) h (lowest_is t n placed k (omega arith)) (bool_cases (free t n placed k))

module _ (t : List ℕ) (n placed : ℕ) where
  lowest_only : (x y : ℕ) → Lowest t n placed n x → Lowest t n placed n y → x ≡ y
  lowest_only x y (inl r) (inl s) = r.0 ∙ sym s.0
  lowest_only x y (inl r) (inr s) = absurd (r.1 y s.0 s.1)
  lowest_only x y (inr r) (inl s) = absurd (s.1 x r.0 r.1)
  lowest_only x y (inr r) (inr s) = go (dec_lt x y) (dec_lt y x)
    where
      go : Dec (x < y) → Dec (y < x) → x ≡ y
      go (yes h) q = absurd (s.2 x h r.1)
      go (no f) (yes h) = absurd (r.2 y h s.1)
      go (no f) (no g) = omega arith

  -- from the sets of the places that reach each place, the first free place is the lowest
  module _ (columns : List ℕ) (told : (i : ℕ) → i < n → get_or columns i 0 ≡ column_of t n i) where
    tells : (i : ℕ) → i < n → free_at t columns placed i ≡ free t n placed i
    tells i h = ap (λ (x : ℕ). free_in (get_or t i 0) x placed i) (told i h)

    first_lowest : (o : Option ℕ) → First (free_at t columns placed) n o → Lowest t n placed n (unwrap_or o n)
    first_lowest None f = inl (refl, λ j h e. both_ways _ (f j h) (tells j h ∙ e))
    first_lowest (Some i) s =
        inr (s.0, sym (tells i s.0) ∙ s.1, λ j h e. both_ways _ (s.2 j h) (tells j (omega (arith, s.0)) ∙ e))

    pub first_is : (o : Option ℕ) → First (free_at t columns placed) n o → unwrap_or o n ≡ lowest_free t n placed n
    first_is o s =
        lowest_only (unwrap_or o n) (lowest_free t n placed n) (first_lowest o s) (lowest_is t n placed n (omega arith))
