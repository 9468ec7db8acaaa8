-- The rules of a row in the words of the library's chains. Assumes nothing.
use mathlib.Core.Path.{◌≡◌, refl, ap}
use mathlib.Core.Bool.{Bool, true, false, cond, ◌&&◌}
use mathlib.Core.List.{List, [], ◌∷◌, map}
use denote.Param.Members.{Mut}
use lib.Ieee.{Float}
use Rattle.std.proofs.Common.{Option, None, Some, sym, subst, ◌∙◌}
use Rattle.std.proofs.lemmas.Iterator.{YieldsList, items_from_drains}
use Rattle.std.proofs.lemmas.List.{map-id}
use Rattle.std.specs.Fn.{Called}
use Rattle.std.specs.Iterator.{Drains, DrainsIf, ReducesItems}
use Rattle.std.specs.List.{list_all, fold, reduce, zip, find, FoldsTo}
use Rattle.std.specs.Option.{unwrap_or}
use Rattle.converge.specs.Doubles.{zero64, larger, usable, beyond}
use Rattle.converge.specs.Answer.{Answer, strayed}
use Rattle.converge.specs.Value.{gap_of, close, usable_record}
use Rattle.converge.specs.Row.{largest_from, largest_of, all_close, stray_or, usable_row, usable_records}
use Rattle.converge.specs.declared.History.{History}

pub usable_all : (row : List Float) → list_all usable row ≡ usable_row row
unfolding usable_row
usable_all [] = refl
usable_all (v ∷ row) = ap (λ (b : Bool). usable v && b) (usable_all row)

pub usable_records_all : (past : List History) → list_all usable_record past ≡ usable_records past
unfolding usable_records
usable_records_all [] = refl
usable_records_all (p ∷ past) = ap (λ (b : Bool). usable_record p && b) (usable_records_all past)

pub close_all : (x y : List Float) (tolerance : Float) → list_all (λ (p : Float × Float). close p.0 p.1 tolerance) (zip x y) ≡ all_close x y tolerance
unfolding all_close
close_all (v ∷ x) (w ∷ y) tolerance = ap (λ (b : Bool). close v w tolerance && b) (close_all x y tolerance)
close_all _ _ tolerance = refl

-- ---- the largest |y - x|

gaps : List Float → List Float → List Float
gaps x y = map (λ (p : Float × Float). gap_of p.0 p.1) (zip x y)

largest_from_fold : (top : Float) (x y : List Float) → fold larger top (gaps x y) ≡ largest_from top x y
unfolding largest_from gaps
largest_from_fold top (v ∷ x) (w ∷ y) = largest_from_fold (larger top (gap_of v w)) x y
largest_from_fold top _ _ = refl

pub largest_reduce : (x y : List Float) → unwrap_or (reduce larger (map (λ (p : Float × Float). gap_of p.0 p.1) (zip x y))) zero64 ≡ largest_of x y
unfolding largest_of gaps
largest_reduce (v ∷ x) (w ∷ y) = largest_from_fold (gap_of v w) x y
largest_reduce _ _ = refl

-- `reduce`, where each call gives h of what it is handed
module _ {S A F : Type 0} (steps : S → Option A → S → Type 0) (g : Mut F (A × (A × Unit {0})) A) (h : A → A → A) (f : F)
    (gives : (a x b : A) (q : F) → Called g f (a, (x, tt)) b q → (q ≡ f) × (b ≡ h a x)) where
  abbrev Turn : F × A → A → F × A → Type 0
  Turn p x o = Called g p.0 (p.1, (x, tt)) o.1 o.0

  folded : (xs : List A) (a r : A) (q : F) → FoldsTo {P = F × A} Turn (f, a) xs (q, r) → r ≡ fold h a xs
  folded [] a r q e = ap (λ (p : F × A). p.1) (sym e)
  folded (x ∷ xs) a r q t =
      let c = gives a x t.0.1 t.0.0 t.1 in
      folded xs (h a x) r q (subst (λ (p : F × A). FoldsTo {P = F × A} Turn p xs (q, r)) (λ i. (c.0 i, c.1 i)) t.2)

  drained : (s : S) (xs : List A) → Drains steps s xs → DrainsIf steps (Unit {0}) s xs
  drained s xs d = (d.1.0, d.1.1, λ u. (d.0, d.1.2))

  pub reduced : {s : S} {all : List A} (r : Option A) → ReducesItems steps g s f r → YieldsList steps (λ x. x) s all → r ≡ reduce h all
  reduced {s} {all} None ran y = ap (reduce h) (items_from_drains {steps = steps} {v = λ x. x} {s = s} [] (drained s [] ran) y)
  reduced {s} {all} (Some v) ran y =
      ap Some (folded ran.1 ran.0 v ran.2 ran.4)
      ∙ ap (reduce h) (sym (map-id (ran.0 ∷ ran.1)) ∙ items_from_drains {steps = steps} {v = λ x. x} {s = s} (ran.0 ∷ ran.1) (drained s (ran.0 ∷ ran.1) ran.3) y)

-- ---- the next values

-- the first next value beyond 1e12 is the one that Strayed carries, and without one the answer stands
pub stray_found : (vs : List Float) (a : Answer) (v : Float) → find beyond vs ≡ Some v → stray_or vs a ≡ strayed v
unfolding stray_or
stray_found [] a v e = cc
stray_found (w ∷ vs) a v e = go (beyond w) (stray_found vs a v) e
  where
    go : (b : Bool) → (find beyond vs ≡ Some v → stray_or vs a ≡ strayed v)
        → cond b (Some w) (find beyond vs) ≡ Some v → cond b (strayed w) (stray_or vs a) ≡ strayed v
    go true g f = let z : w ≡ v = cc in ap strayed z
    go false g f = g f

pub stray_none : (vs : List Float) (a : Answer) → find beyond vs ≡ None → stray_or vs a ≡ a
unfolding stray_or
stray_none [] a e = refl
stray_none (w ∷ vs) a e = go (beyond w) (stray_none vs a) e
  where
    go : (b : Bool) → (find beyond vs ≡ None → stray_or vs a ≡ a)
        → cond b (Some w) (find beyond vs) ≡ None → cond b (strayed w) (stray_or vs a) ≡ a
    go true g f = cc
    go false g f = g f
