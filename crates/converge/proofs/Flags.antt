-- Small laws on flags that the proofs of this crate share, beside those of std. Assumes nothing.
use mathlib.Core.Path.{◌≡◌, refl, sym, subst}
use mathlib.Core.Bool.{Bool, true, false, cond}
use lib.Dec.{T}

-- a flag isn't both
pub true_false : {A : Type 0} → true ≡ false → A
true_false e = absurd (subst T e tt)

pub false_true : {A : Type 0} → false ≡ true → A
false_true e = absurd (subst T (sym e) tt)

pub of_T : (p : Bool) → T p → p ≡ true
of_T true h = refl
of_T false h = absurd h

-- what holds of each of two holds of the one that a flag picks
pub either : {A : Type 0} (P : A → Type 0) (t : Bool) {a b : A} → P a → P b → P (cond t a b)
either P true p q = p
either P false p q = q
