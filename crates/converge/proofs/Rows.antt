-- Records and next values of rows: their lengths, and each as a map over a zip. Assumes nothing.
use mathlib.Core.Path.{◌≡◌, refl, sym, ◌∙◌, ap}
use mathlib.Core.Bool.{Bool, true, false}
use mathlib.Core.List.{List, [], ◌∷◌, map}
use Prim.Native.Nat.{ℕ, zero, suc, ◌+◌, ◌<◌}
use native.Mathlib.Omega.{arith}
use lib.Dec.{eqb}
use lib.ListN.{length, get_or, set}
use lib.Ieee.{Float, nan}
use borrow.Author.Tests.{eqb-true, eqb-false}
use Rattle.std.proofs.lemmas.List.{get_or-set_same, get_or-set_other}
use Rattle.std.specs.List.{zip}
use Rattle.converge.specs.Value.{next_of}
use Rattle.converge.specs.Row.{records_of, nexts_of}
use Rattle.converge.specs.declared.History.{History}

pub records_length : (x y : List Float) → length x ≡ length y → length (records_of x y) ≡ length x
unfolding records_of
records_length [] y e = refl
records_length (a ∷ x) [] e = absurd (omega arith)
records_length (a ∷ x) (b ∷ y) e = ap suc (records_length x y (omega arith))

-- what is read beyond a row of records
abbrev pub blank : History
blank = record { x = nan; y = nan }

pub records_at : (x y : List Float) (k : ℕ) → k < length x → k < length y
    → get_or (records_of x y) k blank ≡ record { x = get_or x k nan; y = get_or y k nan }
unfolding records_of
records_at (a ∷ x) (b ∷ y) zero h g = refl
records_at (a ∷ x) (b ∷ y) (suc k) h g = records_at x y k (omega arith) (omega arith)
records_at [] y k h g = absurd (omega arith)
records_at (a ∷ x) [] k h g = absurd (omega arith)

-- a place further is written
pub records_more : (x y : List Float) (l : List History) (i : ℕ) (p : History) → i < length l → i < length x → i < length y
    → p.x ≡ get_or x i nan → p.y ≡ get_or y i nan → ((k : ℕ) → k < i → get_or l k blank ≡ get_or (records_of x y) k blank)
    → (k : ℕ) → k < i + 1 → get_or (set l i p) k blank ≡ get_or (records_of x y) k blank
records_more x y l i p a b c e f h k m = go (eqb k i) refl
  where
    go : (t : Bool) → eqb k i ≡ t → get_or (set l i p) k blank ≡ get_or (records_of x y) k blank
    go true q =
        let r : k ≡ i = eqb-true k i q in
        rw r (get_or-set_same l i p blank a ∙ (λ j. record { x = e j; y = f j }) ∙ sym (records_at x y i b c))
    go false q =
        let r : k ≡ i → ⊥ = eqb-false k i q in
        get_or-set_other l i k p blank r ∙ h k (omega arith)

pub records_x : (x y : List Float) → length x ≡ length y → map (λ (p : History). p.x) (records_of x y) ≡ x
unfolding records_of
records_x [] y e = refl
records_x (a ∷ x) [] e = absurd (omega arith)
records_x (a ∷ x) (b ∷ y) e = ap (λ (l : List Float). a ∷ l) (records_x x y (omega arith))

pub records_y : (x y : List Float) → length x ≡ length y → map (λ (p : History). p.y) (records_of x y) ≡ y
unfolding records_of
records_y [] [] e = refl
records_y (a ∷ x) (b ∷ y) e = ap (λ (l : List Float). b ∷ l) (records_y x y (omega arith))
records_y _ _ e = absurd (omega arith)

pub nexts_length : (x y : List Float) (past : List History) (count method : ℕ) → length x ≡ length y → length x ≡ length past
    → length (nexts_of x y past count method) ≡ length x
unfolding nexts_of
nexts_length [] y past count method e f = refl
nexts_length (a ∷ x) (b ∷ y) (p ∷ past) count method e f = ap suc (nexts_length x y past count method (omega arith) (omega arith))
nexts_length _ _ _ count method e f = absurd (omega arith)

-- ---- the rows in the words of the library's zips

pub map-map : {A B C : Type 0} (g : B → C) (f : A → B) (l : List A) → map g (map f l) ≡ map (λ v. g (f v)) l
map-map g f [] = refl
map-map g f (v ∷ l) = ap (λ t. g (f v) ∷ t) (map-map g f l)

abbrev pub next_at : ℕ → ℕ → (Float × Float) × History → Float
next_at count method p = next_of p.0.0 p.0.1 p.1 count method

pub nexts_map : (x y : List Float) (past : List History) (count method : ℕ) → map (next_at count method) (zip (zip x y) past) ≡ nexts_of x y past count method
unfolding nexts_of
nexts_map (a ∷ x) (b ∷ y) (p ∷ past) count method = ap (λ (l : List Float). next_of a b p count method ∷ l) (nexts_map x y past count method)
nexts_map _ _ _ count method = refl
