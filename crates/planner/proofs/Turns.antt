-- One turn of each loop: what a loop over a list has done so far, and what is left of it. Assumes nothing.
use mathlib.Core.List.{List, [], ◌∷◌, ◌++◌, map}
use mathlib.Core.Path.{◌≡◌, refl}
use Prim.Native.Nat.{ℕ, zero, suc, ◌+◌, ◌≤◌, ◌<◌}
use native.Mathlib.Numerals.{add-one}
use native.Mathlib.Omega.{arith}
use lib.ListN.{length, get_or, take, drop, length-map}
use lib.Seq.{take-suc, drop-cons}
use Rattle.flowsheet.specs.Sheet.{no_stream}
use Rattle.flowsheet.specs.declared.Stream.{Stream}
use Rattle.tearing.specs.Row.{total}
use Rattle.planner.specs.Links.{with_link, with_links}
use Rattle.planner.specs.Plan.{units_in}

map_last : {A B : Type 0} (f : A → B) (l : List A) (x : A) → map f (l ++ (x ∷ [])) ≡ map f l ++ (f x ∷ [])
map_last f [] x = refl
map_last f (y ∷ l) x = rw (map_last f l x)

-- what f gives along the first i elements, one element further
pub map_more : {A B : Type 0} (f : A → B) (l : List A) (d : A) (i : ℕ) → i < length l
    → map f (take (i + 1) l) ≡ map f (take i l) ++ (f (get_or l i d) ∷ [])
map_more f l d i h = rw (add-one i, take-suc l i d h, map_last f (take i l) (get_or l i d))

-- the links of the streams that are left
pub links_more : (us t : List ℕ) (ss : List Stream) (i : ℕ) → i < length ss
    → with_links us t (drop i ss) ≡ with_links us (with_link us t (get_or ss i no_stream)) (drop (i + 1) ss)
links_more us t ss i h = rw (drop-cons ss i no_stream h, add-one i)

-- no element is more than all together
pub element_most : (w : List ℕ) (i : ℕ) → get_or w i 0 ≤ total w
unfolding total
element_most [] i = omega arith
element_most (x ∷ w) zero = omega arith
element_most (x ∷ w) (suc i) = omega (arith, element_most w i)

pub units_in-length : (us places : List ℕ) → length (units_in us places) ≡ length places
unfolding units_in
units_in-length us places = length-map places (λ (p : ℕ). get_or us p 0)
