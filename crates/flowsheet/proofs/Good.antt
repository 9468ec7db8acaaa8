-- The flowsheet of an accepted image is good, a good flowsheet's numbers rise from any place to any later one, a test tells whether a
-- flowsheet by value is good, and a table stays good with a record more, less or changed. Assumes nothing.
use Rattle.std.proofs.lemmas.Bool.{and_parts}
use mathlib.Core.Bool.{Bool, true, false, cond, not}
use mathlib.Core.List.{List, [], ◌∷◌, ◌++◌, Memᴰ}
use mathlib.Core.Logic.{◌↔◌, ⊎_elim}
use mathlib.Core.Path.{◌≡◌, refl, sym, ap, ◌∙◌, subst}
use Prim.Native.Nat.{ℕ, zero, suc, ◌+◌, ◌≤◌, ◌<◌}
use native.Mathlib.Nat.{eq-or-lt_of_le, le_of_suc-le-suc}
use native.Mathlib.Numerals.{one-add}
use native.Mathlib.Omega.{arith}
use borrow.Author.Tests.{lt-ltb, le-leb, eq-eqb, eqb-true, leb-true, ltb-true, ltb-false}
use lib.Dec.{eqb, leb, ltb}
use lib.ListN.{length, get_or}
use Rattle.rows.specs.Rows.{table}
use Rattle.rows.proofs.Rows.{length-table, get_or-table}
use Rattle.flowsheet.specs.Exactly.{Numbered, Accepted, stream_in, stream_number_in}
use Rattle.flowsheet.specs.Good.{Good, GoodSheet, rows_good, is_good}
use Rattle.flowsheet.specs.Image.{unit_count, stream_count, unit_at, unit_list, stream_list, answer_of, Reading, refused_with, reading_of}
use Rattle.flowsheet.specs.Answers.{number_of, reading}
use Rattle.flowsheet.specs.Sheet.{no_stream, in_turn, stream_fault, sheet_of}
use Rattle.flowsheet.specs.declared.Flowsheet.{Flowsheet}
use Rattle.flowsheet.specs.declared.Refusal.{Refusal}
use Rattle.flowsheet.specs.declared.Stream.{Stream}
use Rattle.std.specs.List.{position_or_len, insert}
use Rattle.std.specs.Prelude.{Ok, Err}
use Rattle.flowsheet.proofs.Exact.{sound_is, sound_of, is_accepted}
use Rattle.flowsheet.proofs.Records.{reading_number, reading_accepted}

-- numbers that are in range and rising, given at each place below n by a function that agrees
pub numbered_same : (f g : ℕ → ℕ) (n i : ℕ) → ((j : ℕ) → j < n → g j ≡ f j) → i < n → Numbered f i → Numbered g i
numbered_same f g n i same h a =
    let e = same i h in
    record {
      low = omega (arith, e, a.low);
      high = omega (arith, e, a.high);
      rising = λ j p. omega (arith, e, same j (omega arith), a.rising j p);
    }

-- strictly rising from each place to the next, so from each to any later one
pub rising : (f : ℕ → ℕ) (n : ℕ) → ((i : ℕ) → i < n → Numbered f i) → (i j : ℕ) → i < j → j < n → f i < f j
rising f n g i zero h k = absurd (omega arith)
rising f n g i (suc j) h k =
    ⊎_elim
    (λ (e : i ≡ j). omega (arith, ap f e, (g (suc j) k).rising j refl))
    (λ (l : i < j). omega (arith, rising f n g i j l (omega arith), (g (suc j) k).rising j refl))
    (eq-or-lt_of_le (le_of_suc-le-suc h))

pub accepted_good : (l : List ℕ) → Accepted l → Good (unit_list l) (stream_list l)
unfolding unit_list stream_list
accepted_good l a =
    let u = length-table (unit_at l) (unit_count l) in
    let s = length-table (stream_in l) (stream_count l) in
    let stream : (i : ℕ) → i < stream_count l → get_or (table (stream_in l) (stream_count l)) i no_stream ≡ stream_in l i =
    λ i h. get_or-table (stream_in l) (stream_count l) no_stream i h in
    record {
      few_units = omega (arith, u, a.header.units);
      few_streams = omega (arith, s, a.header.streams);
      units = λ i h.
          numbered_same (unit_at l) (λ (j : ℕ). get_or (table (unit_at l) (unit_count l)) j 0) (unit_count l) i
          (λ j k. get_or-table (unit_at l) (unit_count l) 0 j k) (omega (arith, u)) (a.units i (omega (arith, u)));
      streams = λ i h.
          numbered_same (stream_number_in l) (λ (j : ℕ). (get_or (table (stream_in l) (stream_count l)) j no_stream).number) (stream_count l) i
          (λ j k. ap (λ (t : Stream). t.number) (stream j k)) (omega (arith, s)) (a.streams i (omega (arith, s))).numbered;
      sound = λ i h. rw (stream i (omega (arith, s))) (a.streams i (omega (arith, s))).sound;
    }

-- a flowsheet of good units and streams is good
pub sheet_good : (us : List ℕ) (ss : List Stream) → Good us ss → GoodSheet (sheet_of us ss)
unfolding sheet_of
sheet_good us ss g = g

-- the flowsheet of a reading that refuses nothing
pub reading_good : (l : List ℕ) → (reading_of l).number ≡ 0
    → ((reading_of l).sheet ≡ sheet_of (unit_list l) (stream_list l)) × Good (unit_list l) (stream_list l)
reading_good l e =
    let a : answer_of l ≡ 0 = sym (reading_number l) ∙ e in
    (ap (λ (r : Reading). r.sheet) (reading_accepted l a), accepted_good l (is_accepted l a))

-- its number is the answer of the table
pub reading_is : (l : List ℕ) → (reading_of l).number ≡ answer_of l
reading_is l = reading_number l

-- a flowsheet that was read is that of the image, and good
pub read_good : (l : List ℕ) (f : Flowsheet) → reading (Ok f) ≡ reading_of l
    → (answer_of l ≡ 0) × (f ≡ sheet_of (unit_list l) (stream_list l)) × GoodSheet f
read_good l f e =
    let n : answer_of l ≡ 0 = sym (reading_is l) ∙ sym (ap (λ (r : Reading). r.number) e) in
    let r = reading_good l (reading_is l ∙ n) in
    let is : f ≡ sheet_of (unit_list l) (stream_list l) = ap (λ (r : Reading). r.sheet) e ∙ r.0 in
    (n, is, rw is (sheet_good (unit_list l) (stream_list l) r.1))

-- an image that was refused is refused with that number
pub read_refused : (l : List ℕ) (e : Refusal) → reading (Err e) ≡ reading_of l → answer_of l ≡ number_of e
unfolding refused_with
read_refused l e is = sym (reading_is l) ∙ sym (ap (λ (r : Reading). r.number) is)

-- ---- the test of a flowsheet by value

module _ {A : Type 0} (number fault : A → ℕ) where
  -- what the test asks of a record behind the number `last`
  record Follows (last : ℕ) (x : A) : Type 0 where
    low : 1 ≤ number x
    high : number x ≤ 9999
    above : last < number x
    sound : fault x ≡ 0

  first_row : (last : ℕ) (x : A) (xs : List A) → rows_good number fault last (x ∷ xs) ≡ true
      → Follows last x × (rows_good number fault (number x) xs ≡ true)
  first_row last x xs e =
      let parts = and_parts (in_turn (number x) last) _ e in
      let low = and_parts (leb 1 (number x)) _ parts.0 in
      let high = and_parts (leb (number x) 9999) _ low.1 in
      let rest = and_parts (eqb (fault x) 0) _ parts.1 in (
        record {
          low = leb-true 1 (number x) low.0;
          high = leb-true (number x) 9999 high.0;
          above = ltb-true last (number x) high.1;
          sound = eqb-true (fault x) 0 rest.0;
        },
        rest.1,
      )

  row_more : (last : ℕ) (x : A) (xs : List A) → Follows last x → rows_good number fault (number x) xs ≡ true
      → rows_good number fault last (x ∷ xs) ≡ true
  row_more last x xs f e =
      simp
      (le-leb 1 (number x) f.low, le-leb (number x) 9999 f.high, lt-ltb last (number x) f.above, eq-eqb (fault x) 0 f.sound, e)

  -- what the test of a table's records tells of the record in each place, and the other way round; `none` is what stands beyond them
  module _ (none : A) where
    abbrev numbers : List A → ℕ → ℕ
    numbers xs i = number (get_or xs i none)

    pub each_good : (last : ℕ) (xs : List A) → rows_good number fault last xs ≡ true → (i : ℕ) → i < length xs
        → Numbered (numbers xs) i × (fault (get_or xs i none) ≡ 0)
    each_good last [] e i h = absurd (omega arith)
    each_good last (x ∷ xs) e zero h =
        let r = first_row last x xs e in
        (record { low = r.0.low; high = r.0.high; rising = λ j p. absurd (omega arith) }, r.0.sound)
    each_good last (x ∷ xs) e (suc i) h =
        let rest = (first_row last x xs e).1 in
        let r = each_good (number x) xs rest i (omega arith) in (
          record {
            low = r.0.low;
            high = r.0.high;
            rising = λ j p. let e : i ≡ j = omega arith in rw (← e) (above xs i h r.0 rest);
          },
          r.1,
        )
      where
        above : (xs : List A) (i : ℕ) → suc i < length (x ∷ xs) → Numbered (numbers xs) i → rows_good number fault (number x) xs ≡ true
            → numbers (x ∷ xs) i < numbers xs i
        above [] i h n rest = absurd (omega arith)
        above (y ∷ xs) zero h n rest = (first_row (number x) y xs rest).0.above
        above (y ∷ xs) (suc i) h n rest = n.rising i refl

    good_each : (last : ℕ) (xs : List A) → (0 < length xs → last < numbers xs 0)
        → ((i : ℕ) → i < length xs → Numbered (numbers xs) i) → ((i : ℕ) → i < length xs → fault (get_or xs i none) ≡ 0)
        → rows_good number fault last xs ≡ true
    good_each last [] above numbered sound = refl
    good_each last (x ∷ xs) above numbered sound =
        let here = numbered 0 (omega arith) in
        row_more last x xs
        (record { low = here.low; high = here.high; above = above (omega arith); sound = sound 0 (omega arith) })
        (good_each (number x) xs
        (λ h. (numbered 1 (omega arith)).rising 0 refl)
        (λ i h.
        let there = numbered (suc i) (omega arith) in
        record { low = there.low; high = there.high; rising = λ j p. there.rising (suc j) (ap suc p) })
        (λ i h. sound (suc i) (omega arith)))

  -- ---- a table with a record more, less or changed

  -- a table stays good behind a lower number
  rows_lower : (last low : ℕ) (xs : List A) → low ≤ last → rows_good number fault last xs ≡ true
      → rows_good number fault low xs ≡ true
  rows_lower last low [] h e = refl
  rows_lower last low (x ∷ xs) h e =
      let r = first_row last x xs e in
      row_more low x xs (record { low = r.0.low; high = r.0.high; above = omega (arith, h, r.0.above); sound = r.0.sound }) r.1

  -- A good table stays good without one of its records,
  pub rows_without : (last : ℕ) (front back : List A) (x : A) → rows_good number fault last (front ++ (x ∷ back)) ≡ true
      → rows_good number fault last (front ++ back) ≡ true
  rows_without last [] back x e = let r = first_row last x back e in rows_lower (number x) last back (omega (arith, r.0.above)) r.1
  rows_without last (y ∷ front) back x e =
      let r = first_row last y (front ++ (x ∷ back)) e in row_more last y (front ++ back) r.0 (rows_without (number y) front back x r.1)

  -- with a record in which nothing is wrong in place of one of the same number,
  pub rows_changed : (last : ℕ) (front back : List A) (x y : A) → number x ≡ number y → fault y ≡ 0
      → rows_good number fault last (front ++ (x ∷ back)) ≡ true → rows_good number fault last (front ++ (y ∷ back)) ≡ true
  rows_changed last [] back x y n f e =
      let r = first_row last x back e in
      row_more last y back
      (record { low = omega (arith, n, r.0.low); high = omega (arith, n, r.0.high); above = omega (arith, n, r.0.above); sound = f })
      (subst (λ (k : ℕ). rows_good number fault k back ≡ true) n r.1)
  rows_changed last (z ∷ front) back x y n f e =
      let r = first_row last z (front ++ (x ∷ back)) e in
      row_more last z (front ++ (y ∷ back)) r.0 (rows_changed (number z) front back x y n f r.1)

  -- and with a record more, of a number that none has, before the first whose number is above it.
  module _ (x : A) (low : 1 ≤ number x) (high : number x ≤ 9999) (sound : fault x ≡ 0) where
    -- that place in a table
    abbrev turn : List A → ℕ
    turn xs = position_or_len (λ (y : A). ltb (number x) (number y)) xs

    follows : (last : ℕ) → last < number x → Follows last x
    follows last h = record { low = low; high = high; above = h; sound = sound }

    pub rows_inserted : (last : ℕ) (xs : List A) → last < number x → ((y : A) → Memᴰ y xs → number y ≡ number x → ⊥)
        → rows_good number fault last xs ≡ true
        → rows_good number fault last (insert xs (position_or_len (λ (y : A). ltb (number x) (number y)) xs) x) ≡ true
    rows_inserted last [] h new e = row_more last x [] (follows last h) refl
    rows_inserted last (y ∷ xs) h new e =
        go (ltb (number x) (number y)) refl (first_row last y xs e)
        (λ k r. rows_inserted (number y) xs k (λ z m. new z (Memᴰ.tail m)) r)
      where
        go : (t : Bool) → ltb (number x) (number y) ≡ t → Follows last y × (rows_good number fault (number y) xs ≡ true)
            → (number y < number x → rows_good number fault (number y) xs ≡ true
            → rows_good number fault (number y) (insert xs (turn xs) x) ≡ true)
            → rows_good number fault last (insert (y ∷ xs) (cond (not t) (1 + turn xs) 0) x) ≡ true
        go true t r rest =
            row_more last x (y ∷ xs) (follows last h)
            (row_more (number x) y xs
            (record { low = r.0.low; high = r.0.high; above = ltb-true _ _ t; sound = r.0.sound }) r.1)
        go false t r rest =
            rw one-add
            (row_more last y (insert xs (turn xs) x) r.0
            (rest (omega (arith, ltb-false _ _ t, new y (Memᴰ.head refl))) r.1))

-- ---- the whole

module _ (us : List ℕ) (ss : List Stream) where
  tested_good : length us ≤ 64 → length ss ≤ 256 → is_good us ss ≡ true → Good us ss
  unfolding is_good
  tested_good few_us few_ss e =
      let parts = and_parts (rows_good (λ (u : ℕ). u) (λ (u : ℕ). 0) 0 us) _ e in
      let unit = each_good (λ (u : ℕ). u) (λ (u : ℕ). 0) 0 0 us parts.0 in
      let stream = each_good (λ (s : Stream). s.number) (stream_fault us) no_stream 0 ss parts.1 in
      record {
        few_units = few_us;
        few_streams = few_ss;
        units = λ i h. (unit i h).0;
        streams = λ i h. (stream i h).0;
        sound = λ i h. sound_of us (get_or ss i no_stream) (stream i h).1;
      }

  -- the tables of a good flowsheet
  pub unit_rows : Good us ss → rows_good (λ (u : ℕ). u) (λ (u : ℕ). 0) 0 us ≡ true
  unit_rows g = good_each (λ (u : ℕ). u) (λ (u : ℕ). 0) 0 0 us (λ h. omega (arith, (g.units 0 h).low)) g.units (λ i h. refl)

  pub stream_rows : Good us ss → rows_good (λ (s : Stream). s.number) (stream_fault us) 0 ss ≡ true
  stream_rows g =
      good_each (λ (s : Stream). s.number) (stream_fault us) no_stream 0 ss (λ h. omega (arith, (g.streams 0 h).low)) g.streams
      (λ i h. sound_is us (get_or ss i no_stream) (g.sound i h))

  good_tested : Good us ss → is_good us ss ≡ true
  unfolding is_good
  good_tested g = simp (unit_rows g, stream_rows g)

  -- the test tells exactly whether units and streams within their bounds are good
  pub good_exact : length us ≤ 64 → length ss ≤ 256 → (is_good us ss ≡ true) ↔ Good us ss
  good_exact few_us few_ss = (tested_good few_us few_ss, good_tested)
