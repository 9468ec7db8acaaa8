-- What an edit makes of a good flowsheet that doesn't refuse it: a good one, whose units or streams are those of before with one more, one less or
-- one changed; and unless a stream is added no block becomes too large. Assumes nothing.
use Rattle.std.proofs.lemmas.Bool.{and_parts}
use Rattle.std.proofs.Common.{◌≡◌, ℕ, zero, suc, ◌≤◌, ◌<◌, Bool, true, false, true≢false, cond, not, ◌&&◌, List, ◌∷◌, ◌++◌, Option, Some, None, is_some, position, insert, length, get_or, set, take, drop, eqb, leb, ltb, ◌⊎◌, inl, inr, ⊎_elim, refl, sym, ap, ◌∙◌, subst, subst₂, arith, eq-eqb, eqb-true, leb-true, ltb-false, take-append-drop, drop-cons, length-append, add-one}
use mathlib.Core.List.{Memᴰ}
use Rattle.std.proofs.lemmas.Bool.{cases_order, false_from_ne_true}
use Rattle.std.proofs.Math.Bool.{or-true}
use Rattle.std.proofs.lemmas.List.{take-set, drop-set}
use Rattle.std.proofs.lemmas.List.Folds.{list_any_at}
use Rattle.std.proofs.lemmas.List.Quantifiers.{position-Some}
use Rattle.std.proofs.lemmas.List.Sums.{prefix_len_passes}
use Rattle.std.specs.List.{position_or_len}
use Rattle.flowsheet.specs.Exactly.{Known, Sound}
use Rattle.flowsheet.specs.Good.{Good, GoodSheet, rows_good}
use Rattle.flowsheet.specs.Image.{first}
use Rattle.flowsheet.specs.Sheet.{no_stream, place_of, stream_fault, weight_fault}
use Rattle.flowsheet.specs.declared.Flowsheet.{Flowsheet}
use Rattle.flowsheet.specs.declared.Stream.{Stream}
use Rattle.flowsheet.proofs.Exact.{sound_is, sound_of}
use Rattle.flowsheet.proofs.Good.{rising, each_good, rows_inserted, rows_without, rows_changed, unit_rows, stream_rows}
use Rattle.planner.specs.Plan.{too_large}
use Rattle.planner.proofs.Kept.{NoneAt, large_less, large_weight, large_unit}
use Rattle.planner.proofs.Members.{mem_at, at_mem, mem_middle, mem_with, mem_without}
use Rattle.session.specs.Edited.{stream_place, without, weighing, reweighted, unit_turn, stream_turn, edited}
use Rattle.session.specs.Refused.{add_fault, ends_at, touched, fault_of}
use Rattle.session.specs.declared.Edit.{Edit}
use Rattle.session.specs.declared.Edit.TheVariants.{AddUnit, RemoveUnit, AddStream, RemoveStream, SetWeight}
use Rattle.session.proofs.Refused.{passed, failed, added_number}

-- ---- a list with an item more, less or changed

-- two lists, of which the second has the item x more
pub record Cut {A : Type 0} (fewer more : List A) (x : A) : Type 0 where
  pub front : List A
  pub back : List A
  pub rest : fewer ≡ front ++ back
  pub whole : more ≡ front ++ (x ∷ back)

-- two lists, of which the second has y in the place of x
pub record Changed {A : Type 0} (before after : List A) (x y : A) : Type 0 where
  pub front : List A
  pub back : List A
  pub old : before ≡ front ++ (x ∷ back)
  pub new : after ≡ front ++ (y ∷ back)

module _ {A : Type 0} where
  -- what holds of every two such lists
  pub of_cut : (P : List A → List A → Type 0) {l m : List A} {x : A} → Cut l m x
      → ((front back : List A) → P (front ++ back) (front ++ (x ∷ back))) → P l m
  of_cut P c f = subst₂ P (sym c.rest) (sym c.whole) (f c.front c.back)

  pub of_changed : (P : List A → List A → Type 0) {l m : List A} {x y : A} → Changed l m x y
      → ((front back : List A) → P (front ++ (x ∷ back)) (front ++ (y ∷ back))) → P l m
  of_changed P c f = subst₂ P (sym c.old) (sym c.new) (f c.front c.back)

  cut_length : {l m : List A} {x : A} → Cut l m x → length m ≡ suc (length l)
  cut_length {x} c =
      of_cut (λ (l m : List A). length m ≡ suc (length l)) c
      (λ front back. omega (arith, length-append front back, length-append front (x ∷ back)))

  changed_length : {l m : List A} {x y : A} → Changed l m x y → length m ≡ length l
  changed_length {x} {y} c =
      of_changed (λ (l m : List A). length m ≡ length l) c
      (λ front back. omega (arith, length-append front (x ∷ back), length-append front (y ∷ back)))

  cut_insert : (l : List A) (i : ℕ) (x : A) → Cut l (insert l i x) x
  cut_insert l i x = record { front = take i l; back = drop i l; rest = sym (take-append-drop i l); whole = refl }

  -- a list around the item in a place
  around : (l : List A) (p : ℕ) (none : A) → p < length l → l ≡ take p l ++ (get_or l p none ∷ drop (suc p) l)
  around l p none h = sym (take-append-drop p l) ∙ ap (λ (m : List A). take p l ++ m) (drop-cons l p none h)

  around_set : (l : List A) (p : ℕ) (y : A) → p < length l → set l p y ≡ take p l ++ (y ∷ drop (suc p) l)
  around_set l p y h = sym (take-append-drop p (set l p y)) ∙ rw (take-set l p y, drop-set l p y h, add-one p)

  -- the items of the one are those of the other, but for x
  mem_more : {l m : List A} {x : A} (y : A) → Cut l m x → Memᴰ y l → Memᴰ y m
  mem_more {x} y c = of_cut (λ (l m : List A). Memᴰ y l → Memᴰ y m) c (λ front back. mem_with front back x)

  mem_fewer : {l m : List A} {x : A} (y : A) → Cut l m x → (y ≡ x → ⊥) → Memᴰ y m → Memᴰ y l
  mem_fewer {x} y c other =
      of_cut (λ (l m : List A). Memᴰ y m → Memᴰ y l) c
      (λ front back m. ⊎_elim (λ e. absurd (other e)) (λ k. k) (mem_without front back x m))

  pub mem_whole : {l m : List A} {x : A} → Cut l m x → Memᴰ x m
  mem_whole {x} c = of_cut (λ (l m : List A). Memᴰ x m) c (λ front back. mem_middle front back)

  pub mem_old : {l m : List A} {x y : A} → Changed l m x y → Memᴰ x l
  mem_old {x} {y} c = of_changed (λ (l m : List A). Memᴰ x l) c (λ front back. mem_middle front back)

-- ---- a search by number

module _ {A : Type 0} (number : A → ℕ) (n : ℕ) (none : A) (l : List A) where
  abbrev has : A → Bool
  has x = eqb (number x) n

  -- where no place is found, no item has the number
  not_held : is_some (position (λ (x : A). eqb (number x) n) l) ≡ false → (x : A) → Memᴰ x l → number x ≡ n → ⊥
  not_held e x m h = go (ltb (position_or_len has l) (length l)) refl (at_mem none m)
    where
      go : (t : Bool) → ltb (position_or_len has l) (length l) ≡ t → (i : ℕ) × (i < length l) × (get_or l i none ≡ x) → ⊥
      go true f r = let z = rw f at e in true≢false z
      go false f r =
          let other = prefix_len_passes (λ (y : A). not (has y)) l r.0 none (omega (arith, r.1, ltb-false _ _ f)) in
          let z = rw (eq-eqb (number (get_or l r.0 none)) n (ap number r.2 ∙ h)) at other in
          true≢false (sym z)

  -- in a place that is found stands an item that has it
  found : (p : ℕ) → position (λ (x : A). eqb (number x) n) l ≡ Some p → (p < length l) × (number (get_or l p none) ≡ n)
  found p e = let r = position-Some has l p none e in (r.0, eqb-true _ n r.1)

  -- that item, taken out
  taken : is_some (position (λ (x : A). eqb (number x) n) l) ≡ true
      → (x : A) × (number x ≡ n) × Cut (without (position (λ (x : A). eqb (number x) n) l) l) l x
  taken h = go (position has l) refl h
    where
      go : (o : Option ℕ) → position has l ≡ o → is_some o ≡ true → (x : A) × (number x ≡ n) × Cut (without o l) l x
      go (Some p) e h =
          let r = found p e in (
            get_or l p none,
            r.1,
            record { front = take p l; back = drop (suc p) l; rest = refl; whole = around l p none r.0 },
          )
      go None e h = absurd (true≢false (sym h))

-- ---- units and streams of a good flowsheet

-- an end that is known is 0 or a unit
known_member : {us : List ℕ} {e : ℕ} → Known us e → (e ≡ 0) ⊎ Memᴰ e us
known_member (inl z) = inl z
known_member {us} {e} (inr k) = inr (subst (λ (x : ℕ). Memᴰ x us) k.2 (mem_at us k.0 0 k.1))

known_in : {us vs : List ℕ} (e : ℕ) → (Memᴰ e us → Memᴰ e vs) → Known us e → Known vs e
known_in e f k = ⊎_elim (λ z. inl z) (λ m. inr (at_mem 0 (f m))) (known_member k)

-- what a good flowsheet tells of a stream of its own
sound_member : {us : List ℕ} {ss : List Stream} → Good us ss → (s : Stream) → Memᴰ s ss → Sound us s
sound_member {us} good s m = let r = at_mem no_stream m in subst (Sound us) r.2 (good.sound r.0 r.1)

-- In a good flowsheet two streams of one number are one.
pub one_stream : {us : List ℕ} {ss : List Stream} → Good us ss → (s t : Stream) → Memᴰ s ss → Memᴰ t ss → s.number ≡ t.number → s ≡ t
one_stream {ss} good s t m k e = go (at_mem no_stream m) (at_mem no_stream k)
  where
    rise : (i j : ℕ) → i < j → j < length ss → (get_or ss i no_stream).number < (get_or ss j no_stream).number
    rise = rising (λ (i : ℕ). (get_or ss i no_stream).number) (length ss) good.streams

    go : (i : ℕ) × (i < length ss) × (get_or ss i no_stream ≡ s) → (j : ℕ) × (j < length ss) × (get_or ss j no_stream ≡ t) → s ≡ t
    go a b =
        let p = ap (λ (r : Stream). r.number) a.2 in
        let q = ap (λ (r : Stream). r.number) b.2 in
        ⊎_elim
        (λ (h : a.0 ≡ b.0). sym a.2 ∙ ap (λ (i : ℕ). get_or ss i no_stream) h ∙ b.2)
        (λ o.
        ⊎_elim
        (λ (h : a.0 < b.0). absurd (omega (arith, rise a.0 b.0 h b.1, p, q, e)))
        (λ (h : b.0 < a.0). absurd (omega (arith, rise b.0 a.0 h a.1, p, q, e)))
        o)
        (cases_order a.0 b.0)

-- other units beside the same streams, that hold each stream's ends
other_units : {us vs : List ℕ} {ss : List Stream} → Good us ss → length vs ≤ 64 → rows_good (λ (u : ℕ). u) (λ (u : ℕ). 0) 0 vs ≡ true
    → ((s : Stream) → Memᴰ s ss → (Memᴰ s.source us → Memᴰ s.source vs) × (Memᴰ s.receiver us → Memᴰ s.receiver vs))
    → Good vs ss
other_units {us} {vs} {ss} good few rows ends =
    record {
      few_units = few;
      few_streams = good.few_streams;
      units = λ i h. (each_good (λ (u : ℕ). u) (λ (u : ℕ). 0) 0 0 vs rows i h).0;
      streams = good.streams;
      sound = λ i h.
          let g = good.sound i h in
          let stay = ends (get_or ss i no_stream) (mem_at ss i no_stream h) in
          record {
            source = known_in (get_or ss i no_stream).source stay.0 g.source;
            receiver = known_in (get_or ss i no_stream).receiver stay.1 g.receiver;
            inside = g.inside;
            light = g.light;
            heavy = g.heavy;
          };
    }

-- other streams between the same units
other_streams : {us : List ℕ} {ss ts : List Stream} → Good us ss → length ts ≤ 256
    → rows_good (λ (s : Stream). s.number) (stream_fault us) 0 ts ≡ true → Good us ts
other_streams {us} {ss} {ts} good few rows =
    let each = each_good (λ (s : Stream). s.number) (stream_fault us) no_stream 0 ts rows in
    record {
      few_units = good.few_units;
      few_streams = few;
      units = good.units;
      streams = λ i h. (each i h).0;
      sound = λ i h. sound_of us (get_or ts i no_stream) (each i h).1;
    }

-- ---- what an edit that isn't refused tells

both_none : (a b : ℕ) → first a b ≡ 0 → (a ≡ 0) × (b ≡ 0)
both_none zero b e = (refl, e)
both_none (suc a) b e = absurd (omega arith)

-- a weight that isn't refused is in range
weight_light : (w : ℕ) → weight_fault w ≡ 0 → (1 ≤ w) × (w ≤ 1000)
unfolding weight_fault
weight_light w e = let r = and_parts (leb 1 w) _ (passed (leb 1 w && leb w 1000) 0 9 e).0 in (leb-true 1 w r.0, leb-true w 1000 r.1)

-- a number that no unit has, and isn't 0, is no stream's end
none_at_new : {us : List ℕ} {ss : List Stream} (n : ℕ) → Good us ss → 1 ≤ n → ((u : ℕ) → Memᴰ u us → u ≡ n → ⊥) → NoneAt ss n
none_at_new {us} n good low new t m =
    let s = sound_member good t m in
    (not_end t.source (known_member s.source), not_end t.receiver (known_member s.receiver))
  where
    not_end : (e : ℕ) → (e ≡ 0) ⊎ Memᴰ e us → e ≡ n → ⊥
    not_end e (inl z) h = omega arith
    not_end e (inr m) h = new e m h

none_at_untouched : (ss : List Stream) (n : ℕ) → touched ss n ≡ false → NoneAt ss n
unfolding touched
none_at_untouched ss n e t m =
    (λ h. no_end (rw (eq-eqb t.source n h)), λ h. no_end (rw (eq-eqb t.receiver n h) (or-true (eqb t.source n))))
  where
    no_end : ends_at n t ≡ true → ⊥
    no_end h =
        let r = at_mem no_stream m in
        let any = list_any_at (ends_at n) ss r.0 no_stream r.1 (ap (ends_at n) r.2 ∙ h) in
        true≢false (sym any ∙ e)

-- ---- how an edit's lists are cut

-- A unit that is added or removed is no stream's end, and the streams stay.
pub added_unit : (f : Flowsheet) (n : ℕ) → GoodSheet f → fault_of (AddUnit n) f ≡ 0
    → Cut f.units (edited (AddUnit n) f).units n × NoneAt f.streams n × ((edited (AddUnit n) f).streams ≡ f.streams)
unfolding edited fault_of place_of
added_unit f n good e =
    let a = added_number n (is_some (place_of f.units n)) (length f.units) 64 e in
    (cut_insert f.units (unit_turn f.units n) n, none_at_new n good a.0 (not_held (λ (u : ℕ). u) n 0 f.units a.2), refl)

pub removed_unit : (f : Flowsheet) (n : ℕ) → fault_of (RemoveUnit n) f ≡ 0
    → Cut (edited (RemoveUnit n) f).units f.units n × NoneAt f.streams n × ((edited (RemoveUnit n) f).streams ≡ f.streams)
unfolding edited fault_of place_of
removed_unit f n e =
    let r = passed (is_some (place_of f.units n)) (cond (touched f.streams n) 24 0) 22 e in
    let t = taken (λ (u : ℕ). u) n 0 f.units r.0 in (
      subst (λ (x : ℕ). Cut (without (place_of f.units n) f.units) f.units x) t.1 t.2,
      none_at_untouched f.streams n (failed (touched f.streams n) 0 23 r.1).0,
      refl,
    )

-- Where a stream is added, removed or given a weight the units stay.
pub added_stream : (f : Flowsheet) (s : Stream)
    → Cut f.streams (edited (AddStream s) f).streams s × ((edited (AddStream s) f).units ≡ f.units)
unfolding edited
added_stream f s = (cut_insert f.streams (stream_turn f.streams s.number) s, refl)

pub removed_stream : (f : Flowsheet) (n : ℕ) → fault_of (RemoveStream n) f ≡ 0
    → (s : Stream) × (s.number ≡ n) × Cut (edited (RemoveStream n) f).streams f.streams s
    × ((edited (RemoveStream n) f).units ≡ f.units)
unfolding edited fault_of stream_place
removed_stream f n e =
    let r = taken (λ (s : Stream). s.number) n no_stream f.streams (passed (is_some (stream_place f.streams n)) 0 22 e).0 in
    (r.0, r.1, r.2, refl)

pub weighed_stream : (f : Flowsheet) (n w : ℕ) → fault_of (SetWeight n w) f ≡ 0
    → (s : Stream) × (s.number ≡ n) × Changed f.streams (edited (SetWeight n w) f).streams s (weighing w s)
    × ((edited (SetWeight n w) f).units ≡ f.units)
unfolding edited fault_of stream_place
weighed_stream f n w e =
    let r = go (stream_place f.streams n) refl (passed (is_some (stream_place f.streams n)) (weight_fault w) 22 e).0 in
    (r.0, r.1, r.2, refl)
  where
    go : (o : Option ℕ) → stream_place f.streams n ≡ o → is_some o ≡ true
        → (s : Stream) × (s.number ≡ n) × Changed f.streams (reweighted w o f.streams) s (weighing w s)
    go (Some p) e h =
        let r = found (λ (s : Stream). s.number) n no_stream f.streams p e in
        let s = get_or f.streams p no_stream in (
          s,
          r.1,
          record {
            front = take p f.streams;
            back = drop (suc p) f.streams;
            old = around f.streams p no_stream r.0;
            new = around_set f.streams p (weighing w s) r.0;
          },
        )
    go None e h = absurd (true≢false (sym h))

-- ---- the flowsheet after it is good

module _ (f : Flowsheet) (good : GoodSheet f) where
  unit_added : (n : ℕ) → fault_of (AddUnit n) f ≡ 0 → GoodSheet (edited (AddUnit n) f)
  unfolding edited fault_of unit_turn place_of
  unit_added n e =
      let a = added_number n (is_some (place_of f.units n)) (length f.units) 64 e in
      let c = (added_unit f n good e).0 in
      other_units good
      (omega (arith, cut_length c, a.3))
      (rows_inserted (λ (u : ℕ). u) (λ (u : ℕ). 0) n a.0 a.1 refl 0 f.units (omega (arith, a.0))
      (not_held (λ (u : ℕ). u) n 0 f.units a.2) (unit_rows f.units f.streams good))
      (λ s m. (mem_more s.source c, mem_more s.receiver c))

  unit_removed : (n : ℕ) → fault_of (RemoveUnit n) f ≡ 0 → GoodSheet (edited (RemoveUnit n) f)
  unfolding edited
  unit_removed n e =
      let r = removed_unit f n e in
      other_units good
      (omega (arith, cut_length r.0, good.few_units))
      (of_cut
      (λ (us vs : List ℕ). rows_good (λ (u : ℕ). u) (λ (u : ℕ). 0) 0 vs ≡ true → rows_good (λ (u : ℕ). u) (λ (u : ℕ). 0) 0 us ≡ true) r.0
      (λ front back. rows_without (λ (u : ℕ). u) (λ (u : ℕ). 0) 0 front back n)
      (unit_rows f.units f.streams good))
      (λ s m. let away = r.1 s m in (mem_fewer s.source r.0 away.0, mem_fewer s.receiver r.0 away.1))

  -- the test of a stream table beside these units
  abbrev streams_good : List Stream → Type 0
  streams_good ss = rows_good (λ (s : Stream). s.number) (stream_fault f.units) 0 ss ≡ true

  stream_added : (s : Stream) → fault_of (AddStream s) f ≡ 0 → GoodSheet (edited (AddStream s) f)
  unfolding edited fault_of stream_turn stream_place
  stream_added s e =
      let held = is_some (stream_place f.streams s.number) in
      let b = both_none (add_fault s.number held (length f.streams) 256) (stream_fault f.units s) e in
      let a = added_number s.number held (length f.streams) 256 b.0 in
      other_streams good
      (omega (arith, cut_length (added_stream f s).0, a.3))
      (rows_inserted (λ (s : Stream). s.number) (stream_fault f.units) s a.0 a.1 b.1 0 f.streams (omega (arith, a.0))
      (not_held (λ (s : Stream). s.number) s.number no_stream f.streams a.2) (stream_rows f.units f.streams good))

  stream_removed : (n : ℕ) → fault_of (RemoveStream n) f ≡ 0 → GoodSheet (edited (RemoveStream n) f)
  unfolding edited
  stream_removed n e =
      let r = removed_stream f n e in
      other_streams good
      (omega (arith, cut_length r.2, good.few_streams))
      (of_cut (λ (ss ts : List Stream). streams_good ts → streams_good ss) r.2
      (λ front back. rows_without (λ (s : Stream). s.number) (stream_fault f.units) 0 front back r.0)
      (stream_rows f.units f.streams good))

  stream_weighed : (n w : ℕ) → fault_of (SetWeight n w) f ≡ 0 → GoodSheet (edited (SetWeight n w) f)
  unfolding edited fault_of
  stream_weighed n w e =
      let r = weighed_stream f n w e in
      let old = sound_member good r.0 (mem_old r.2) in
      let light = weight_light w (passed (is_some (stream_place f.streams n)) (weight_fault w) 22 e).1 in
      let sound : Sound f.units (weighing w r.0) =
      record { source = old.source; receiver = old.receiver; inside = old.inside; light = light.0; heavy = light.1 } in
      other_streams good
      (omega (arith, changed_length r.2, good.few_streams))
      (of_changed (λ (ss ts : List Stream). streams_good ss → streams_good ts) r.2
      (λ front back.
      rows_changed (λ (s : Stream). s.number) (stream_fault f.units) 0 front back r.0 (weighing w r.0) refl
      (sound_is f.units (weighing w r.0) sound))
      (stream_rows f.units f.streams good))

-- An edit that isn't refused leaves a good flowsheet good.
pub edited_good : (e : Edit) (f : Flowsheet) → GoodSheet f → fault_of e f ≡ 0 → GoodSheet (edited e f)
edited_good (AddUnit n) f good e = unit_added f good n e
edited_good (RemoveUnit n) f good e = unit_removed f good n e
edited_good (AddStream s) f good e = stream_added f good s e
edited_good (RemoveStream n) f good e = stream_removed f good n e
edited_good (SetWeight n w) f good e = stream_weighed f good n w e

-- ---- no block becomes too large

less_small : {us : List ℕ} {ss ts : List Stream} {s : Stream} → Cut ts ss s → Good us ss → Good us ts
    → too_large us ss ≡ false → too_large us ts ≡ false
less_small {us} {s} c =
    of_cut (λ (ts ss : List Stream). Good us ss → Good us ts → too_large us ss ≡ false → too_large us ts ≡ false) c
    (λ front back whole less small.
    false_from_ne_true (too_large us (front ++ back)) (λ h. true≢false (sym (large_less front back s whole less h) ∙ small)))

weighed_same : (us : List ℕ) {ss ts : List Stream} {s : Stream} {w : ℕ} → Changed ss ts s (weighing w s)
    → too_large us ss ≡ too_large us ts
weighed_same us {s} {w} c =
    of_changed (λ (ss ts : List Stream). too_large us ss ≡ too_large us ts) c
    (λ front back. large_weight us front back s (weighing w s) refl refl)

unit_same : {us vs : List ℕ} {ss : List Stream} {n : ℕ} → Cut us vs n → NoneAt ss n → Good us ss → Good vs ss
    → too_large vs ss ≡ too_large us ss
unit_same {ss} {n} c none_at =
    of_cut (λ (us vs : List ℕ). Good us ss → Good vs ss → too_large vs ss ≡ too_large us ss) c
    (λ front back. large_unit n none_at front back)

-- Only adding a stream can make a block too large.
pub edited_small : (e : Edit) (f : Flowsheet) → GoodSheet f → fault_of e f ≡ 0 → too_large f.units f.streams ≡ false
    → ((s : Stream) → e ≡ AddStream s → ⊥) → too_large (edited e f).units (edited e f).streams ≡ false
unfolding edited
edited_small (AddUnit n) f good e small other =
    let r = added_unit f n good e in unit_same r.0 r.1 good (unit_added f good n e) ∙ small
edited_small (RemoveUnit n) f good e small other =
    let r = removed_unit f n e in sym (unit_same r.0 r.1 (unit_removed f good n e) good) ∙ small
edited_small (AddStream s) f good e small other = absurd (other s refl)
edited_small (RemoveStream n) f good e small other = less_small (removed_stream f n e).2 good (stream_removed f good n e) small
edited_small (SetWeight n w) f good e small other = sym (weighed_same f.units (weighed_stream f n w e).2) ∙ small
