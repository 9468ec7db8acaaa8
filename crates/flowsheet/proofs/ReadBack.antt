-- The image of a good flowsheet is accepted and reads as that flowsheet. Bytes that stand somewhere in a row stand there part by part, so
-- the header's numbers and those of each record are read off where they were written. Assumes nothing.
use mathlib.Core.List.{List, [], ◌∷◌, ◌++◌, append_assoc, append-nil}
use mathlib.Core.Logic.{◌↔◌, inl, inr}
use mathlib.Core.Path.{◌≡◌, refl, sym, ap, ◌∙◌}
use Prim.Native.Nat.{ℕ, zero, suc, ◌+◌, ◌*◌, ◌/◌, ◌^◌, ◌<◌}
use native.Mathlib.Nat.{mul-zero, mul-suc}
use native.Mathlib.Omega.{arith}
use lib.ListN.{length, get_or, length-append}
use lib.Seq.{ext_get_or}
use Rattle.rows.specs.Rows.{table}
use Rattle.rows.proofs.Rows.{length-table, get_or-table}
use Rattle.words.specs.Words.{number_at, bytes_of, flat}
use Rattle.words.proofs.Numbers.{Bytes, length_bytes, number_of_bytes}
use Rattle.words.proofs.Rows.{length-records}
use Rattle.std.specs.Prelude.{Ok}
use Rattle.flowsheet.specs.Answers.{reading}
use Rattle.flowsheet.specs.Exactly.{GoodHeader, Known, Accepted, stream_in, stream_number_in}
use Rattle.flowsheet.specs.Good.{Good, GoodSheet}
use Rattle.flowsheet.specs.Image.{edition_of, spare_of, unit_count, stream_count, unit_at, unit_list, stream_held, stream_at, stream_list, answer_of, reading_of}
use Rattle.flowsheet.specs.Sheet.{no_stream, sheet_of}
use Rattle.flowsheet.specs.Written.{header_bytes, unit_bytes, stream_bytes, image_of}
use Rattle.flowsheet.specs.declared.Flowsheet.{Flowsheet}
use Rattle.flowsheet.specs.declared.Stream.{Stream}
use Rattle.flowsheet.proofs.Exact.{spare_zero, accepted_is, is_accepted}
use Rattle.flowsheet.proofs.Good.{numbered_same, accepted_good}
use Rattle.flowsheet.proofs.Records.{reading_accepted}

-- ---- bytes in a row

-- the bytes b stand in the row l from place i on
record Stands (b : List ℕ) (i : ℕ) (l : List ℕ) : Type 0 where
  front : List ℕ
  behind : List ℕ
  is : l ≡ front ++ (b ++ behind)
  at : length front ≡ i

stands_whole : (l : List ℕ) → Stands l 0 l
stands_whole l = record { front = []; behind = []; is = sym (append-nil l); at = refl }

stands_first : {i : ℕ} {l : List ℕ} (a b : List ℕ) → Stands (a ++ b) i l → Stands a i l
stands_first a b s =
    record {
      front = s.front;
      behind = b ++ s.behind;
      is = s.is ∙ ap (λ (x : List ℕ). s.front ++ x) (append_assoc a b s.behind);
      at = s.at;
    }

stands_then : {i : ℕ} {l : List ℕ} (a b : List ℕ) (j : ℕ) → i + length a ≡ j → Stands (a ++ b) i l → Stands b j l
stands_then a b j e s =
    record {
      front = s.front ++ a;
      behind = s.behind;
      is =
          s.is
          ∙ ap (λ (x : List ℕ). s.front ++ x) (append_assoc a b s.behind)
          ∙ sym (append_assoc s.front a (b ++ s.behind));
      at = length-append s.front a ∙ ap (λ (n : ℕ). n + length a) s.at ∙ e;
    }

-- the bytes of a number hold it
number_stands : {i : ℕ} {l : List ℕ} (k v : ℕ) → v < 256 ^ k → Stands (bytes_of k v) i l → number_at k l i ≡ v
number_stands {i} k v h s =
    ap (λ (m : List ℕ). number_at k m i) s.is
    ∙ ap (number_at k (s.front ++ (bytes_of k v ++ s.behind))) (sym s.at)
    ∙ number_of_bytes k v s.front s.behind h

-- a number, and what stands behind it
number_then : {i : ℕ} {l : List ℕ} (k v : ℕ) (b : List ℕ) (j : ℕ) → v < 256 ^ k → i + k ≡ j → Stands (bytes_of k v ++ b) i l
    → (number_at k l i ≡ v) × Stands b j l
number_then {i} k v b j h e s =
    (number_stands k v h (stands_first (bytes_of k v) b s), stands_then (bytes_of k v) b j (rw (length_bytes k v) e) s)

-- records of w bytes each stand w bytes apart
record_stands : {A : Type 0} {l : List ℕ} (f : A → List ℕ) (w : ℕ) (none : A) → ((x : A) → length (f x) ≡ w)
    → (xs : List A) (base : ℕ) → Stands (flat f xs) base l → (i : ℕ) → i < length xs → Stands (f (get_or xs i none)) (base + w * i) l
record_stands f w none wide [] base s i h = absurd (omega arith)
record_stands f w none wide (x ∷ xs) base s zero h =
    let first = stands_first (f x) (flat f xs) s in
    record { front = first.front; behind = first.behind; is = first.is; at = rw (mul-zero w) (omega (arith, first.at)) }
record_stands f w none wide (x ∷ xs) base s (suc i) h =
    let others = stands_then (f x) (flat f xs) (base + w) (rw (wide x) refl) s in
    let there = record_stands f w none wide xs (base + w) others i (omega arith) in
    record { front = there.front; behind = there.behind; is = there.is; at = rw (mul-suc w i) (omega (arith, there.at)) }

table_is : {A : Type 0} (f : ℕ → A) (none : A) (xs : List A) → ((i : ℕ) → i < length xs → f i ≡ get_or xs i none) → table f (length xs) ≡ xs
table_is f none xs same =
    let n = length-table f (length xs) in
    ext_get_or none (table f (length xs)) xs n
    (λ i h. let k : i < length xs = omega (arith, n) in get_or-table f (length xs) none i k ∙ same i k)

-- ---- bytes of numbers and of records

bytes_append : (a b : List ℕ) → Bytes a → Bytes b → Bytes (a ++ b)
bytes_append [] b p q i = q i
bytes_append (x ∷ a) b p q zero = p 0
bytes_append (x ∷ a) b p q (suc i) = bytes_append a b (λ j. p (suc j)) q i

bytes_number : (k v : ℕ) → Bytes (bytes_of k v)
unfolding bytes_of
bytes_number zero v i = omega arith
bytes_number (suc k) v zero = omega arith
bytes_number (suc k) v (suc i) = bytes_number k (v / 256) i

bytes_flat : {A : Type 0} (f : A → List ℕ) → ((x : A) → Bytes (f x)) → (xs : List A) → Bytes (flat f xs)
bytes_flat f byte [] i = omega arith
bytes_flat f byte (x ∷ xs) i = bytes_append (f x) (flat f xs) (byte x) (bytes_flat f byte xs) i

-- a number in front of bytes
number_before : (k v : ℕ) (b : List ℕ) → Bytes b → Bytes (bytes_of k v ++ b)
number_before k v b p = bytes_append (bytes_of k v) b (bytes_number k v) p

-- ---- the image of units and streams

length-header : (u s : ℕ) → length (header_bytes u s) ≡ 16
unfolding header_bytes
length-header u s =
    simp
    (length-append, length_bytes 2 1, length_bytes 2 u, length_bytes 2 s, length_bytes 2 16, length_bytes 2 (16 + 2 * u), length_bytes 2 (16 + 2 * u + 8 * s), length_bytes 4 0)

length-unit : (u : ℕ) → length (unit_bytes u) ≡ 2
unfolding unit_bytes
length-unit u = length_bytes 2 u

length-stream : (s : Stream) → length (stream_bytes s) ≡ 8
unfolding stream_bytes
length-stream s =
    simp (length-append, length_bytes 2 s.number, length_bytes 2 s.source, length_bytes 2 s.receiver, length_bytes 2 s.weight)

-- units and streams that an image can hold: each of their numbers has 16 bits, and the total length has
pub record Writable (us : List ℕ) (ss : List Stream) : Type 0 where
  pub room : 16 + 2 * length us + 8 * length ss < 65536
  pub units : (i : ℕ) → i < length us → get_or us i 0 < 65536
  pub numbers : (i : ℕ) → i < length ss → (get_or ss i no_stream).number < 65536
  pub sources : (i : ℕ) → i < length ss → (get_or ss i no_stream).source < 65536
  pub receivers : (i : ℕ) → i < length ss → (get_or ss i no_stream).receiver < 65536
  pub weights : (i : ℕ) → i < length ss → (get_or ss i no_stream).weight < 65536

known_small : (us : List ℕ) (e : ℕ) → ((i : ℕ) → i < length us → get_or us i 0 < 65536) → Known us e → e < 65536
known_small us e small (inl z) = omega arith
known_small us e small (inr k) = omega (arith, k.2, small k.0 k.1)

module _ (us : List ℕ) (ss : List Stream) where
  -- an image can hold every good flowsheet
  pub good_writable : Good us ss → Writable us ss
  good_writable g =
      let units : (i : ℕ) → i < length us → get_or us i 0 < 65536 = λ i h. omega (arith, (g.units i h).high) in
      record {
        room = omega (arith, g.few_units, g.few_streams);
        units = units;
        numbers = λ i h. omega (arith, (g.streams i h).high);
        sources = λ i h. known_small us _ units (g.sound i h).source;
        receivers = λ i h. known_small us _ units (g.sound i h).receiver;
        weights = λ i h. omega (arith, (g.sound i h).heavy);
      }

  -- every element of an image is a byte
  pub image_bytes : Bytes (image_of us ss)
  unfolding image_of header_bytes unit_bytes stream_bytes
  image_bytes =
      bytes_append (header_bytes (length us) (length ss)) _
      (number_before 2 _ _ (number_before 2 _ _ (number_before 2 _ _ (number_before 2 _ _ (number_before 2 _ _ (number_before 2 _ _ (bytes_number 4 0)))))))
      (bytes_append (flat unit_bytes us) _ (bytes_flat unit_bytes (bytes_number 2) us)
      (bytes_flat stream_bytes (λ s. number_before 2 _ _ (number_before 2 _ _ (number_before 2 _ _ (bytes_number 2 s.weight)))) ss))

  -- "the total is 16 + 2U + 8S"
  pub length_image : length (image_of us ss) ≡ 16 + 2 * length us + 8 * length ss
  unfolding image_of
  length_image =
      rw (length-append, length-header, length-append, length-records unit_bytes 2 length-unit us, length-records stream_bytes 8 length-stream ss)
      (omega arith)

  image_stands : Stands (header_bytes (length us) (length ss) ++ (flat unit_bytes us ++ flat stream_bytes ss)) 0 (image_of us ss)
  unfolding image_of
  image_stands = stands_whole (image_of us ss)

  tables_stand : Stands (flat unit_bytes us ++ flat stream_bytes ss) 16 (image_of us ss)
  tables_stand =
      stands_then (header_bytes (length us) (length ss)) _ 16 (omega (arith, length-header (length us) (length ss))) image_stands

  -- what is read from an image of units and streams that it can hold
  module _ (fit : Writable us ss) where
    header_told : (edition_of (image_of us ss) ≡ 1) × (unit_count (image_of us ss) ≡ length us) × (stream_count (image_of us ss) ≡ length ss)
        × (number_at 2 (image_of us ss) 6 ≡ 16)
        × (number_at 2 (image_of us ss) 8 ≡ 16 + 2 * length us)
        × (number_at 2 (image_of us ss) 10 ≡ 16 + 2 * length us + 8 * length ss)
        × (spare_of (image_of us ss) ≡ 0)
    unfolding header_bytes
    header_told =
        let room = fit.room in
        let header = stands_first (header_bytes (length us) (length ss)) _ image_stands in
        let edition = number_then 2 1 _ 2 (omega arith) refl header in
        let units = number_then 2 (length us) _ 4 (omega arith) refl edition.1 in
        let streams = number_then 2 (length ss) _ 6 (omega arith) refl units.1 in
        let units_at = number_then 2 16 _ 8 (omega arith) refl streams.1 in
        let streams_at = number_then 2 (16 + 2 * length us) _ 10 (omega arith) refl units_at.1 in
        let total = number_then 2 (16 + 2 * length us + 8 * length ss) _ 12 (omega arith) refl streams_at.1 in
        (edition.0, units.0, streams.0, units_at.0, streams_at.0, total.0, number_stands 4 0 (omega arith) total.1)

    unit_told : (i : ℕ) → i < length us → unit_at (image_of us ss) i ≡ get_or us i 0
    unfolding unit_at unit_bytes
    unit_told i h =
        number_stands 2 (get_or us i 0) (fit.units i h)
        (record_stands unit_bytes 2 0 length-unit us 16 (stands_first (flat unit_bytes us) _ tables_stand) i h)

    stream_told : (i : ℕ) → i < length ss → stream_at (image_of us ss) (length us) i ≡ get_or ss i no_stream
    unfolding stream_at stream_held stream_bytes
    stream_told i h =
        let base = 16 + 2 * length us in
        let at = base + 8 * i in
        let table =
        stands_then (flat unit_bytes us) _ base (omega (arith, length-records unit_bytes 2 length-unit us)) tables_stand in
        let s = get_or ss i no_stream in
        let record_there = record_stands stream_bytes 8 no_stream length-stream ss base table i h in
        let number = number_then 2 s.number _ (at + 2) (fit.numbers i h) refl record_there in
        let source = number_then 2 s.source _ (at + 4) (fit.sources i h) (omega arith) number.1 in
        let receiver = number_then 2 s.receiver _ (at + 6) (fit.receivers i h) (omega arith) source.1 in
        let weight = number_stands 2 s.weight (fit.weights i h) receiver.1 in
        rw (number.0, source.0, receiver.0, weight) refl

    -- the units and the streams that were written, good or not
    pub units_read : unit_list (image_of us ss) ≡ us
    unfolding unit_list
    units_read = rw header_told.1 (table_is (unit_at (image_of us ss)) 0 us unit_told)

    pub streams_read : stream_list (image_of us ss) ≡ ss
    unfolding stream_list
    streams_read =
        rw (header_told.1, header_told.2) (table_is (stream_at (image_of us ss) (length us)) no_stream ss stream_told)

  module _ (g : Good us ss) where
    fits : Writable us ss
    fits = good_writable g

    good_header : GoodHeader (image_of us ss)
    good_header =
        let told = header_told fits in
        record {
          long = omega (arith, length_image);
          edition = told.0;
          spare = spare_zero (image_of us ss) told.6;
          units = omega (arith, told.1, g.few_units);
          streams = omega (arith, told.2, g.few_streams);
          layout = record {
            units_at = told.3;
            streams_at = rw told.1 told.4;
            total = rw (told.1, told.2) told.5;
            lent = rw (told.1, told.2) length_image;
          };
        }

    -- nothing is wrong with the image of a good flowsheet
    pub image_accepted : Accepted (image_of us ss)
    image_accepted =
        let told = header_told fits in
        let stream : (i : ℕ) → i < length ss → stream_in (image_of us ss) i ≡ get_or ss i no_stream =
        λ i h. rw told.1 (stream_told fits i h) in
        record {
          header = good_header;
          units = λ i h.
              numbered_same (λ (j : ℕ). get_or us j 0) (unit_at (image_of us ss)) (length us) i (unit_told fits) (omega (arith, told.1))
              (g.units i (omega (arith, told.1)));
          streams = λ i h.
              let k : i < length ss = omega (arith, told.2) in
              record {
                numbered =
                    numbered_same (λ (j : ℕ). (get_or ss j no_stream).number) (stream_number_in (image_of us ss)) (length ss) i
                    (λ j l. ap (λ (s : Stream). s.number) (stream j l)) k (g.streams i k);
                sound = rw (units_read fits, stream i k) (g.sound i k);
              };
        }

    -- it reads as that flowsheet
    pub image_read : (answer_of (image_of us ss) ≡ 0) × (unit_list (image_of us ss) ≡ us) × (stream_list (image_of us ss) ≡ ss)
    image_read = (accepted_is (image_of us ss) image_accepted, units_read fits, streams_read fits)

  -- units and streams that an image can hold are good exactly when theirs is accepted
  pub accepted_iff : Writable us ss → Good us ss ↔ (answer_of (image_of us ss) ≡ 0)
  accepted_iff fit = (
    λ g. accepted_is (image_of us ss) (image_accepted g),
    λ e. rw (units_read fit, streams_read fit) at (accepted_good (image_of us ss) (is_accepted (image_of us ss) e)),
  )

-- what reading answers for the image of a good flowsheet by value: that flowsheet
pub sheet_read : (f : Flowsheet) → GoodSheet f → reading_of (image_of f.units f.streams) ≡ reading (Ok f)
unfolding sheet_of
sheet_read f g =
    let r = image_read f.units f.streams g in
    reading_accepted (image_of f.units f.streams) r.0 ∙ rw (r.1, r.2) refl
