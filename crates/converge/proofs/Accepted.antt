-- What holds of a step that isn't refused: each of the five tests failed, and a failed test is taken apart. Assumes nothing.
use mathlib.Core.Path.{◌≡◌, refl, sym}
use mathlib.Core.Bool.{Bool, true, false, not, cond, ◌&&◌}
use mathlib.Core.List.{List}
use mathlib.Core.Logic.{◌⊎◌, inl, inr, ⊎_map}
use Prim.Native.Nat.{ℕ, ◌<◌, ◌≤◌}
use native.Mathlib.Omega.{arith}
use lib.Dec.{eqb, ltb}
use lib.ListN.{length}
use lib.Ieee.{Float, le}
use borrow.Author.Tests.{ltb-false, eqb-true, eqb-false, lt-ltb, not-false}
use Rattle.std.proofs.lemmas.Bool.{or_parts}
use Rattle.converge.specs.Doubles.{finest, coarsest}
use Rattle.converge.specs.Row.{usable_row, usable_records, rows_wrong, tolerance_wrong, limit_wrong, values_wrong, records_wrong, refused_or, refusal_of}
use Rattle.converge.specs.declared.History.{History}
use Rattle.converge.proofs.Flags.{true_false}

pub record Accepted (x y : List Float) (past : List History) (count method : ℕ) (tolerance : Float) (limit : ℕ) : Type 0 where
  pub level : length x ≡ length y
  pub recorded : length x ≡ length past
  pub some : 0 < length x
  pub few : length x ≤ 16
  pub fine : le finest tolerance ≡ true
  pub coarse : le tolerance coarsest ≡ true
  pub least : 0 < limit
  pub most : limit ≤ 500
  pub known : (method ≡ 1) ⊎ (method ≡ 2)
  pub usable_x : usable_row x ≡ true
  pub usable_y : usable_row y ≡ true
  pub within : count ≤ limit
  pub usable_past : 0 < count → usable_records past ≡ true

passed : (b : Bool) (k n : ℕ) → (k ≡ 0 → ⊥) → cond b k n ≡ 0 → (b ≡ false) × (n ≡ 0)
passed true k n h e = absurd (h e)
passed false k n h e = (refl, e)

-- ---- 30 to 33, and what is asked behind them

abbrev tried : Bool → Bool → Bool → Bool → ℕ → ℕ
tried a b c d later = cond a 30 (cond b 31 (cond c 32 (cond d 33 later)))

module _ (x y : List Float) (records method : ℕ) (tolerance : Float) (limit : ℕ) where
  -- where none of them is given, what is asked behind them decides
  pub refused_later : (later : ℕ) → refused_or x y records method tolerance limit 0 ≡ 0 → refused_or x y records method tolerance limit later ≡ later
  refused_later later e = go (rows_wrong (length x) (length y) records) (tolerance_wrong tolerance) (limit_wrong limit method) (values_wrong x y) e
    where
      go : (a b c d : Bool) → tried a b c d 0 ≡ 0 → tried a b c d later ≡ later
      go false false false false e = refl
      go true _ _ _ e = absurd (omega arith)
      go false true _ _ e = absurd (omega arith)
      go false false true _ e = absurd (omega arith)
      go false false false true e = absurd (omega arith)

  -- there are no more records than a row holds
  pub accepted_few : refused_or x y records method tolerance limit 0 ≡ 0 → records ≤ 16
  unfolding rows_wrong
  accepted_few e =
      let a = passed (rows_wrong (length x) (length y) records) 30 _ (λ z. omega arith) e in
      let b = or_parts (not (eqb (length x) (length y))) _ a.0 in
      let c = or_parts (not (eqb (length x) records)) _ b.1 in
      let d = or_parts (eqb (length x) 0) (ltb 16 (length x)) c.1 in
      let f : length x ≡ records = eqb-true _ _ (not-false _ c.0) in
      let g : length x ≤ 16 = ltb-false 16 (length x) d.1 in
      omega arith

  -- where one is given, nothing behind it is asked
  pub refused_early : (later n : ℕ) → (n ≡ 0 → ⊥) → refused_or x y records method tolerance limit 0 ≡ n → refused_or x y records method tolerance limit later ≡ n
  refused_early later n h e = go (rows_wrong (length x) (length y) records) (tolerance_wrong tolerance) (limit_wrong limit method) (values_wrong x y) e
    where
      go : (a b c d : Bool) → tried a b c d 0 ≡ n → tried a b c d later ≡ n
      go false false false false e = absurd (h (sym e))
      go true _ _ _ e = e
      go false true _ _ e = e
      go false false true _ e = e
      go false false false true e = e

-- ---- 30 to 34

either_known : (a b : Bool) → (not a && not b) ≡ false → (a ≡ true) ⊎ (b ≡ true)
either_known true b e = inl refl
either_known false true e = inr refl
either_known false false e = true_false e

when_past : (a b : Bool) → (a && not b) ≡ false → a ≡ true → b ≡ true
when_past true b e h = not-false b e
when_past false b e h = true_false (sym h)

module _ (x y : List Float) (past : List History) (count method : ℕ) (tolerance : Float) (limit : ℕ) where
  pub accepted : refusal_of x y past count method tolerance limit ≡ 0 → Accepted x y past count method tolerance limit
  unfolding refusal_of rows_wrong tolerance_wrong limit_wrong values_wrong records_wrong
  accepted e =
      let n : (k : ℕ) → 0 < k → k ≡ 0 → ⊥ = λ k l z. omega arith in
      let a = passed (rows_wrong (length x) (length y) (length past)) 30 _ (n 30 (omega arith)) e in
      let b = passed (tolerance_wrong tolerance) 31 _ (n 31 (omega arith)) a.1 in
      let c = passed (limit_wrong limit method) 32 _ (n 32 (omega arith)) b.1 in
      let d = passed (values_wrong x y) 33 _ (n 33 (omega arith)) c.1 in
      let f = passed (records_wrong past count limit) 34 0 (n 34 (omega arith)) d.1 in
      let a1 = or_parts (not (eqb (length x) (length y))) _ a.0 in
      let a2 = or_parts (not (eqb (length x) (length past))) _ a1.1 in
      let a3 = or_parts (eqb (length x) 0) (ltb 16 (length x)) a2.1 in
      let b1 = or_parts (not (le finest tolerance)) (not (le tolerance coarsest)) b.0 in
      let c1 = or_parts (eqb limit 0) _ c.0 in
      let c2 = or_parts (ltb 500 limit) _ c1.1 in
      let d1 = or_parts (not (usable_row x)) (not (usable_row y)) d.0 in
      let f1 = or_parts (ltb limit count) _ f.0 in
      let none : length x ≡ 0 → ⊥ = eqb-false (length x) 0 a3.0 in
      let off : limit ≡ 0 → ⊥ = eqb-false limit 0 c1.0 in
      record {
        level = eqb-true _ _ (not-false _ a1.0);
        recorded = eqb-true _ _ (not-false _ a2.0);
        some = omega arith;
        few = ltb-false 16 (length x) a3.1;
        fine = not-false _ b1.0;
        coarse = not-false _ b1.1;
        least = omega arith;
        most = ltb-false 500 limit c2.0;
        known = ⊎_map (eqb-true method 1) (eqb-true method 2) (either_known (eqb method 1) (eqb method 2) c2.1);
        usable_x = not-false _ d1.0;
        usable_y = not-false _ d1.1;
        within = ltb-false limit count f1.0;
        usable_past = λ h. when_past (ltb 0 count) (usable_records past) f1.1 (lt-ltb 0 count h);
      }
