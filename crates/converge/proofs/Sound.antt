-- No NaN arises from accepted input; the double that an answer carries is finite whatever is handed in; and the rows that a move leaves are usable again. Assumes nothing.
use mathlib.Core.Path.{◌≡◌, refl, sym, ◌∙◌}
use mathlib.Core.Bool.{Bool, true, false, not, cond}
use mathlib.Core.List.{List, [], ◌∷◌}
use mathlib.Core.Logic.{inl, inr}
use Prim.Native.Nat.{ℕ, zero, suc, ◌<◌}
use native.Mathlib.Omega.{arith}
use lib.Dec.{eqb}
use lib.ListN.{length, get_or}
use lib.Ieee.{Float, nan, binary64, of_bits, is_nan, sub, mul, div, eq}
use lib.Ieee.Scale.{finite}
use borrow.Author.Tests.{eqb-true, not-false}
use Rattle.converge.specs.Doubles.{zero64, one64, mag, larger, usable, beyond}
use Rattle.converge.specs.Answer.{Answer, moved, refused}
use Rattle.converge.specs.Value.{gap_of, rise, factor_of, next_of, usable_record}
use Rattle.converge.specs.Row.{records_of, largest_of, all_close, nexts_of, stray_or, usable_row, usable_records, refusal_of, judged, verdict_of}
use Rattle.converge.specs.declared.History.{History}
use Rattle.std.proofs.lemmas.Bool.{and_parts}
use Rattle.converge.proofs.Flags.{true_false, either}
use Rattle.converge.proofs.Says.{Some, here, later, misses}
use Rattle.converge.proofs.Refusals.{Unfit, says_unfit}
use Rattle.converge.proofs.Accepted.{Accepted, accepted}
use Rattle.converge.proofs.Verdicts.{Beyond, moved_accepted, moved-within}
use Rattle.converge.proofs.Finite.{gap_finite, allowance_finite, products_finite, next_finite, rise_finite, quotient_number}
use Rattle.converge.proofs.Largest.{largest_is}

-- ---- every number on the way

usable_at : (row : List Float) (k : ℕ) → usable_row row ≡ true → k < length row → usable (get_or row k nan) ≡ true
unfolding usable_row
usable_at [] k u h = absurd (omega arith)
usable_at (v ∷ row) zero u h = (and_parts (usable v) (usable_row row) u).0
usable_at (v ∷ row) (suc k) u h = usable_at row k (and_parts (usable v) (usable_row row) u).1 (omega arith)

record_at_lem : (past : List History) (k : ℕ) (p : History) → usable_records past ≡ true → k < length past → usable_record (get_or past k p) ≡ true
unfolding usable_records
record_at_lem [] k p u h = absurd (omega arith)
record_at_lem (q ∷ past) zero p u h = (and_parts (usable_record q) (usable_records past) u).0
record_at_lem (q ∷ past) (suc k) p u h = record_at_lem past k p (and_parts (usable_record q) (usable_records past) u).1 (omega arith)

-- |y − x|, tolerance × m, the two products and the next value are finite; so is d where the record counts, and dy / d is a number where d isn't zero
pub record Sound (x y : Float) (past : History) (count method : ℕ) (tolerance : Float) : Type 0 where
  pub gap : finite (gap_of x y) ≡ true
  pub allowance : finite (mul binary64 tolerance (larger (mag x) one64)) ≡ true
  pub products : (finite (mul binary64 (factor_of x y past) x) ≡ true) × (finite (mul binary64 (sub binary64 one64 (factor_of x y past)) y) ≡ true)
  pub next : finite (next_of x y past count method) ≡ true
  pub difference : 0 < count → finite (rise x y past) ≡ true
  pub quotient : 0 < count → eq (rise x y past) zero64 ≡ false → is_nan (div binary64 (sub binary64 y past.y) (rise x y past)) ≡ false

-- No NaN arises from accepted input, at any place of the row. (`p` stands past the end of the records.)
pub accepted_sound : (x y : List Float) (past : List History) (count method : ℕ) (tolerance : Float) (limit : ℕ)
    → Accepted x y past count method tolerance limit → (k : ℕ) (p : History) → k < length x
    → Sound (get_or x k nan) (get_or y k nan) (get_or past k p) count method tolerance
accepted_sound x y past count method tolerance limit a k p h =
    let v = get_or x k nan in
    let w = get_or y k nan in
    let q = get_or past k p in
    let ux = usable_at x k a.usable_x h in
    let uy = usable_at y k a.usable_y (omega (arith, a.level)) in
    record {
      gap = gap_finite v w ux uy;
      allowance = allowance_finite v w ux uy tolerance a.fine a.coarse;
      products = products_finite v w ux uy q;
      next = next_finite v w ux uy q count method;
      difference = λ n. rise_finite v w ux uy q (record_at_lem past k p (a.usable_past n) (omega (arith, a.recorded)));
      quotient = λ n. quotient_number v w ux uy q (record_at_lem past k p (a.usable_past n) (omega (arith, a.recorded)));
    }

-- ---- what is carried

-- the double that an answer carries is finite
abbrev Carries : Answer → Type 0
Carries a = finite a.carried ≡ true

stray_finite : (x y : List Float) (past : List History) (count method : ℕ) (a : Answer)
    → usable_row x ≡ true → usable_row y ≡ true → finite a.carried ≡ true
    → finite (stray_or (nexts_of x y past count method) a).carried ≡ true
unfolding nexts_of stray_or usable_row
stray_finite (v ∷ x) (w ∷ y) (p ∷ past) count method a ux uy e =
    let u = and_parts (usable v) _ ux in
    let t = and_parts (usable w) _ uy in
    either Carries (beyond (next_of v w p count method)) (next_finite v w u.0 t.0 p count method) (stray_finite x y past count method a u.1 t.1 e)
stray_finite _ _ _ count method a ux uy e = e

-- The carried double is a finite number for all that can be handed in.
pub carried_finite : (x y : List Float) (past : List History) (count method : ℕ) (tolerance : Float) (limit : ℕ)
    → finite (verdict_of x y past count method tolerance limit).carried ≡ true
unfolding verdict_of judged of_bits
carried_finite x y past count method tolerance limit = go (refusal_of x y past count method tolerance limit) refl (eqb (refusal_of x y past count method tolerance limit) 0) refl
  where
    top : Accepted x y past count method tolerance limit → finite (largest_of x y) ≡ true
    top a = (largest_is x y a.level a.some a.usable_x a.usable_y).number

    go : (r : ℕ) → refusal_of x y past count method tolerance limit ≡ r → (b : Bool) → eqb r 0 ≡ b
        → finite (cond b (judged x y past count method tolerance limit) (refused r)).carried ≡ true
    go r z true e =
        let a = accepted x y past count method tolerance limit (z ∙ eqb-true r 0 e) in
        either Carries (all_close x y tolerance) (top a)
        (either Carries (eqb count limit) (top a) (stray_finite x y past count method (moved (largest_of x y)) a.usable_x a.usable_y (top a)))
    go r z false e = refl

-- ---- what is left

fit_of : (v : Float) → finite v ≡ true → (Beyond v → ⊥) → usable v ≡ true
fit_of v f n = not-false (usable v) (misses (not (usable v)) (says_unfit v) neither)
  where
    neither : Unfit v → ⊥
    neither (inl e) = true_false (sym f ∙ e)
    neither (inr e) = n e

nexts_usable : (x y : List Float) (past : List History) (count method : ℕ) → usable_row x ≡ true → usable_row y ≡ true
    → (Some Beyond (nexts_of x y past count method) → ⊥) → usable_row (nexts_of x y past count method) ≡ true
unfolding nexts_of usable_row
nexts_usable (v ∷ x) (w ∷ y) (p ∷ past) count method ux uy n =
    let u = and_parts (usable v) _ ux in
    let t = and_parts (usable w) _ uy in
    let f = fit_of (next_of v w p count method) (next_finite v w u.0 t.0 p count method) (λ b. n (here b)) in
    let r = nexts_usable x y past count method u.1 t.1 (λ s. n (later s)) in
    rw (f, r)
nexts_usable _ _ _ count method ux uy n = refl

records_usable : (x y : List Float) → usable_row x ≡ true → usable_row y ≡ true → usable_records (records_of x y) ≡ true
unfolding records_of usable_row usable_records usable_record
records_usable (v ∷ x) (w ∷ y) ux uy =
    let u = and_parts (usable v) _ ux in
    let t = and_parts (usable w) _ uy in
    let r = records_usable x y u.1 t.1 in
    rw (u.0, t.0, r)
records_usable _ _ ux uy = refl

-- After Moved the x row and the records are usable again: neither 33 by x nor 34 by a record can come of handing them on.
pub moved-usable : (x y : List Float) (past : List History) (count method : ℕ) (tolerance : Float) (limit : ℕ)
    → (verdict_of x y past count method tolerance limit).number ≡ 4
    → (usable_row (nexts_of x y past count method) ≡ true) × (usable_records (records_of x y) ≡ true)
moved-usable x y past count method tolerance limit e =
    let a = (moved_accepted x y past count method tolerance limit e).0 in
    (nexts_usable x y past count method a.usable_x a.usable_y (moved-within x y past count method tolerance limit e), records_usable x y a.usable_x a.usable_y)
