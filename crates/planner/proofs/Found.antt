-- The place of a number in a list where no number stands twice: the one where it stands. Assumes nothing.
use mathlib.Core.List.Memᴰ
use mathlib.Core.List.{List, Memᴰ}
use mathlib.Core.Logic.{◌⊎◌, inl, inr, ⊎_elim}
use mathlib.Core.Path.{◌≡◌, sym, ap, ◌∙◌}
use Prim.Native.Nat.{ℕ, ◌<◌}
use lib.ListN.{length, get_or}
use Rattle.flowsheet.specs.Sheet.{place_of}
use Rattle.std.specs.Prelude.{Option, Some, None}
use Rattle.flowsheet.proofs.Places.{place_found, place_nowhere, place_cases}
use Rattle.tearing.proofs.Lists.{Distinct}
use Rattle.planner.proofs.Members.{mem_at, at_mem, distinct_place}

-- what is found is a member, and a member is found
pub found_mem : (l : List ℕ) (n i : ℕ) → place_of l n ≡ Some i → Memᴰ n l
found_mem l n i e = let r = place_found l n i e in Memᴰ.cast (sym r.1) (mem_at l i 0 r.0)

pub mem_found : (l : List ℕ) (n : ℕ) → Memᴰ n l → (i : ℕ) × (place_of l n ≡ Some i)
mem_found l n p =
    let r = at_mem 0 p in
    ⊎_elim (λ f. f) (λ e. absurd (place_nowhere l n e r.0 r.1 r.2)) (place_cases l n)

-- what isn't a member is nowhere
pub not_found : (l : List ℕ) (n : ℕ) → (Memᴰ n l → ⊥) → place_of l n ≡ None
not_found l n f = ⊎_elim (λ r. absurd (f (found_mem l n r.0 r.1))) (λ e. e) (place_cases l n)

-- a number is a member or it isn't
pub mem_cases : (l : List ℕ) (n : ℕ) → Memᴰ n l ⊎ (Memᴰ n l → ⊥)
mem_cases l n =
    ⊎_elim (λ r. inl (found_mem l n r.0 r.1))
    (λ e. inr (λ p. let r = at_mem 0 p in place_nowhere l n e r.0 r.1 r.2)) (place_cases l n)

-- what stands in place i is found there
pub place_is : (l : List ℕ) → Distinct l → (n i : ℕ) → i < length l → get_or l i 0 ≡ n → place_of l n ≡ Some i
place_is l d n i h e =
    ⊎_elim
    (λ r.
    let s = place_found l n r.0 r.1 in
    r.1 ∙ ap Some (distinct_place l d r.0 i s.0 h (s.1 ∙ sym e)))
    (λ x. absurd (place_nowhere l n x i h e))
    (place_cases l n)

-- the number of a place, 0 where there is none
abbrev pub place_number : Option ℕ → ℕ
place_number (Some i) = i
place_number None = 0

pub at_same : {i j : ℕ} → Some i ≡ Some j → i ≡ j
at_same e = ap place_number e
