-- A table of links as a caller fills it: none at first, and one more each time a bit is set. Assumes nothing.
use mathlib.Core.Path.{◌≡◌, refl, sym, ap, ◌∙◌, subst}
use mathlib.Core.Logic.{◌⊎◌, inl, inr, ◌↔◌}
use mathlib.Core.List.{List}
use Prim.Native.Nat.{ℕ, zero, suc, ◌^◌, ◌<◌}
use native.Mathlib.Omega.{arith}
use native.Mathlib.Decide.{ℕ_discrete}
use lib.Bits.{bit_or}
use lib.ListN.{length, get_or, set, replicate}
use lib.Seq.{get_or-set_same, get_or-set_other}
use Rattle.blocks.specs.Links.{linked, Link}
use Rattle.sets.specs.Sets.{bit}
use Rattle.blocks.proofs.Bits.{bit_zero, bit_one, bit_one_same, or_left, or_right, or_either}

get_or_zeros : (n i : ℕ) → ◌≡◌ {A = ℕ} (get_or (replicate n 0) i 0) 0
get_or_zeros zero i = refl
get_or_zeros (suc n) zero = refl
get_or_zeros (suc n) (suc i) = get_or_zeros n i

-- A table of zeros has no link.
pub link_none : (n i j : ℕ) → Link (replicate n 0) i j → ⊥
link_none n i j h = omega (arith, ap (bit j) (get_or_zeros n i), bit_zero j, h)

-- With bit j of row i set, the table has one link more, from i to j.
pub link_more : (t : List ℕ) (i j : ℕ) → i < length t → (a b : ℕ)
    → Link (linked t i j) a b ↔ (Link t a b ⊎ ((a ≡ i) × (b ≡ j)))
link_more t i j h a b = elim (ℕ_discrete a i) [ yes e ↦ row e | no f ↦ (λ l. inl ((other f).0 l), back f) ]
  where
    v : ℕ
    v = bit_or (get_or t i 0) (2 ^ j)

    at : (a ≡ i) → get_or (set t i v) a 0 ≡ v
    at e = ap (λ (x : ℕ). get_or (set t i v) x 0) e ∙ get_or-set_same t i v 0 h

    row : a ≡ i → Link (set t i v) a b ↔ (Link t a b ⊎ ((a ≡ i) × (b ≡ j)))
    row e = (λ l. out (or_either b (get_or t i 0) (2 ^ j) (sym (ap (bit b) (at e)) ∙ l)), λ s. ap (bit b) (at e) ∙ into s)
      where
        out : (bit b (get_or t i 0) ≡ 1) ⊎ (bit b (2 ^ j) ≡ 1) → Link t a b ⊎ ((a ≡ i) × (b ≡ j))
        out (inl x) = inl (subst (λ (y : ℕ). Link t y b) (sym e) x)
        out (inr x) = inr (e, bit_one b j x)

        into : Link t a b ⊎ ((a ≡ i) × (b ≡ j)) → bit b v ≡ 1
        into (inl x) = or_left b (get_or t i 0) (2 ^ j) (subst (λ (y : ℕ). Link t y b) e x)
        into (inr s) = or_right b (get_or t i 0) (2 ^ j) (subst (λ (y : ℕ). bit b (2 ^ y) ≡ 1) s.1 (bit_one_same b))

    other : (a ≡ i → ⊥) → Link (set t i v) a b ↔ Link t a b
    other f =
        let e = ap (bit b) (get_or-set_other t i a v 0 f) in
        (λ l. sym e ∙ l, λ l. e ∙ l)

    back : (a ≡ i → ⊥) → Link t a b ⊎ ((a ≡ i) × (b ≡ j)) → Link (set t i v) a b
    back f (inl l) = (other f).1 l
    back f (inr s) = absurd (f s.0)
