-- Rows of a fixed length that are filled from the front, and tables of a function. Assumes nothing.
use mathlib.Core.List.{List, [], ◌∷◌, ◌++◌}
use mathlib.Core.Logic.{⊎_elim}
use mathlib.Core.Path.{◌≡◌, refl, sym, ap, ◌∙◌}
use Prim.Native.Nat.{ℕ, zero, suc, ◌+◌, ◌-◌, ◌≤◌, ◌<◌}
use native.Mathlib.Nat.{eq-or-lt_of_le, le_of_suc-le-suc}
use native.Mathlib.Numerals.{add-one}
use native.Mathlib.Omega.{arith}
use lib.ListN.{length, get_or, set, take, drop, replicate, length-append, length-replicate, get_or-append}
use Rattle.std.proofs.lemmas.List.{length-take-le, take_more_set}
use lib.Seq.{take_at, drop_at, set-append_seam, append_snoc, get_or-append_seam}
use Rattle.rows.specs.Rows.{padded, table}

module _ {A : Type 0} where
  pub length-padded : (n : ℕ) (d : A) (xs : List A) → length xs ≤ n → length (padded n d xs) ≡ n
  unfolding padded
  length-padded n d xs h = rw (length-append, length-replicate) (omega arith)

  pub padded_none : (n : ℕ) (d : A) → replicate n d ≡ padded n d []
  unfolding padded
  padded_none n d = let e : n - 0 ≡ n = omega arith in rw e

  -- a store at the first free place makes the list one longer
  pub padded_more : (n : ℕ) (d : A) (xs : List A) (v : A) → length xs < n → set (padded n d xs) (length xs) v ≡ padded n d (xs ++ (v ∷ []))
  unfolding padded
  padded_more n d xs v h =
      let e : n - length xs ≡ suc (n - suc (length xs)) = omega arith in
      let f : n - length (xs ++ (v ∷ [])) ≡ n - suc (length xs) = rw length-append (omega arith) in
      rw (e, set-append_seam, f, append_snoc)

  -- a store at the first blank place of a row of n places leaves the places beyond it blank
  pub blank_beyond : (n : ℕ) (d : A) (count : ℕ) (places : List A) (v : A) → count < n → length places ≡ n
      → places ≡ padded n d (take count places)
      → set places count v ≡ padded n d (take (count + 1) (set places count v))
  blank_beyond n d count places v h e p =
      let l : length (take count places) ≡ count = length-take-le count places (omega (arith, h, e)) in
      ap (λ (xs : List A). set xs count v) p
      ∙ ap (λ (k : ℕ). set (padded n d (take count places)) k v) (sym l)
      ∙ padded_more n d (take count places) v (rw l h)
      ∙ ap (padded n d) (sym (take_more_set places count v (rw e h)))

  -- the items written over, as many as they were, leave the places beyond them blank
  pub blank_behind : (n : ℕ) (d : A) (count : ℕ) (places xs : List A) → count ≤ n → length places ≡ n
      → places ≡ padded n d (take count places) → length xs ≡ length (take count places)
      → xs ++ drop count places ≡ padded n d (take count (xs ++ drop count places))
  unfolding padded
  blank_behind n d count places xs h e p same =
      let l : length (take count places) ≡ count = length-take-le count places (omega (arith, h, e)) in
      let beyond : drop count places ≡ replicate (n - length (take count places)) d =
      ap (drop count) p ∙ drop_at (take count places) _ count l in
      rw (take_at xs (drop count places) count (same ∙ l)) (rw (same, beyond) refl)

  -- what is held is what was put in
  pub take-padded : (n : ℕ) (d : A) (xs : List A) → take (length xs) (padded n d xs) ≡ xs
  unfolding padded
  take-padded n d xs = take_at xs (replicate (n - length xs) d) (length xs) refl

  module _ (f : ℕ → A) where
    pub length-table : (n : ℕ) → length (table f n) ≡ n
    unfolding table
    length-table zero = refl
    length-table (suc n) = rw (length-append, length-table n) (omega arith)

    pub table_more : (n : ℕ) → table f (n + 1) ≡ table f n ++ (f n ∷ [])
    unfolding table
    table_more n = rw (add-one n)

    pub get_or-table : (n : ℕ) (d : A) (i : ℕ) → i < n → get_or (table f n) i d ≡ f i
    unfolding table
    get_or-table zero d i h = absurd (omega arith)
    get_or-table (suc n) d i h =
        ⊎_elim
        (λ (e : i ≡ n).
        rw e
        (ap (λ (k : ℕ). get_or (table f n ++ (f n ∷ [])) k d) (sym (length-table n)) ∙ get_or-append_seam (table f n) (f n) [] d))
        (λ (l : i < n). get_or-append (table f n) (f n ∷ []) d i (rw length-table l) ∙ get_or-table n d i l)
        (eq-or-lt_of_le (le_of_suc-le-suc h))

  -- tables of functions that agree
  pub table_same : (f g : ℕ → A) (n : ℕ) → ((i : ℕ) → i < n → f i ≡ g i) → table f n ≡ table g n
  unfolding table
  table_same f g zero h = refl
  table_same f g (suc n) h = rw (table_same f g n (λ i l. h i (omega arith)), h n (omega arith))
