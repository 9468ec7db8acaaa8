-- An accepted image is the image of its units and streams, byte for byte; so two accepted images of one flowsheet are the same bytes.
-- The image is cut into its records, and the bytes of each are those of the numbers that it holds. Assumes nothing.
use mathlib.Core.List.{List, [], ◌∷◌, ◌++◌, append-nil}
use mathlib.Core.Path.{◌≡◌, refl, sym, ap, ◌∙◌}
use Prim.Native.Nat.{ℕ, zero, suc, ◌+◌, ◌*◌, ◌≤◌, ◌<◌}
use native.Mathlib.Nat.{mul-zero, mul-suc}
use native.Mathlib.Omega.{arith}
use lib.ListN.{length, take, drop, take-append-drop, length-drop}
use lib.Seq.{take-add, take_all, drop-drop}
use Rattle.rows.specs.Rows.{table}
use Rattle.words.specs.Words.{number_at, bytes_of, flat}
use Rattle.words.proofs.Numbers.{Bytes, bytes_of_number}
use Rattle.words.proofs.Rows.{flat_append}
use Rattle.rows.proofs.Rows.{length-table}
use Rattle.flowsheet.specs.Exactly.{GoodHeader, Accepted}
use Rattle.flowsheet.specs.Image.{unit_count, stream_count, unit_at, unit_list, stream_held, stream_at, stream_list, answer_of, Reading, reading_of}
use Rattle.flowsheet.specs.Sheet.{sheet_of}
use Rattle.flowsheet.specs.Written.{header_bytes, unit_bytes, stream_bytes, image_of}
use Rattle.flowsheet.proofs.Exact.{spare_is, is_accepted}
use Rattle.flowsheet.proofs.Held.{sheet_same}
use Rattle.flowsheet.proofs.Records.{reading_accepted}

flat_last : {A : Type 0} (f : A → List ℕ) (xs : List A) (x : A) → flat f (xs ++ (x ∷ [])) ≡ flat f xs ++ f x
flat_last f xs x = flat_append f xs (x ∷ []) ∙ ap (λ (l : List ℕ). flat f xs ++ l) (append-nil (f x))

-- a + b bytes from i on, in two parts
cut : (a b i : ℕ) (l : List ℕ) → take (a + b) (drop i l) ≡ take a (drop i l) ++ take b (drop (i + a) l)
cut a b i l = rw (take-add a b (drop i l), drop-drop a i l)

-- records of w bytes each from `base` on, each of them those bytes of l
records : {A : Type 0} (f : A → List ℕ) (g : ℕ → A) (w base : ℕ) (l : List ℕ) (n : ℕ)
    → ((i : ℕ) → i < n → f (g i) ≡ take w (drop (base + w * i) l)) → flat f (table g n) ≡ take (w * n) (drop base l)
unfolding table
records f g w base l zero h = rw (mul-zero w)
records f g w base l (suc n) h =
    rw (mul-suc w n, cut (w * n) w base l, flat_last f (table g n) (g n), h n (omega arith), records f g w base l n (λ i k. h i (omega arith)))

module _ (l : List ℕ) (bytes : Bytes l) where
  two : (i : ℕ) → i + 2 ≤ length l → bytes_of 2 (number_at 2 l i) ≡ take 2 (drop i l)
  two i h = bytes_of_number 2 l i bytes h

  header_bytes_lem : GoodHeader l → header_bytes (unit_count l) (stream_count l) ≡ take 16 l
  unfolding header_bytes
  header_bytes_lem g =
      let long = g.long in
      let e0 : bytes_of 2 1 ≡ take 2 (drop 0 l) = ap (bytes_of 2) (sym g.edition) ∙ two 0 (omega arith) in
      let e3 : bytes_of 2 16 ≡ take 2 (drop 6 l) = ap (bytes_of 2) (sym g.layout.units_at) ∙ two 6 (omega arith) in
      let e4 : bytes_of 2 (16 + 2 * unit_count l) ≡ take 2 (drop 8 l) = ap (bytes_of 2) (sym g.layout.streams_at) ∙ two 8 (omega arith) in
      let e5 : bytes_of 2 (16 + 2 * unit_count l + 8 * stream_count l) ≡ take 2 (drop 10 l) =
      ap (bytes_of 2) (sym g.layout.total) ∙ two 10 (omega arith) in
      let e6 : bytes_of 4 0 ≡ take 4 (drop 12 l) = ap (bytes_of 4) (sym (spare_is l g.spare)) ∙ bytes_of_number 4 l 12 bytes (omega arith) in
      rw (e0, two 2 (omega arith), two 4 (omega arith), e3, e4, e5, e6)
      (rw (← cut 2 4 10 l, ← cut 2 6 8 l, ← cut 2 8 6 l, ← cut 2 10 4 l, ← cut 2 12 2 l, ← cut 2 14 0 l) refl)

  stream_bytes_lem : (at : ℕ) → at + 8 ≤ length l → stream_bytes (stream_held l at) ≡ take 8 (drop at l)
  unfolding stream_bytes stream_held
  stream_bytes_lem at h =
      let p4 : at + 4 ≡ at + 2 + 2 = omega arith in
      let p6 : at + 6 ≡ at + 2 + 2 + 2 = omega arith in
      rw (p4, p6, two at (omega arith), two (at + 2) (omega arith), two (at + 2 + 2) (omega arith), two (at + 2 + 2 + 2) (omega arith))
      (rw (← cut 2 2 (at + 2 + 2) l, ← cut 2 4 (at + 2) l, ← cut 2 6 at l) refl)

  units_bytes : GoodHeader l → flat unit_bytes (unit_list l) ≡ take (2 * unit_count l) (drop 16 l)
  unfolding unit_list unit_bytes unit_at
  units_bytes g =
      let lent = g.layout.lent in
      records unit_bytes (unit_at l) 2 16 l (unit_count l) (λ i h. two (16 + 2 * i) (omega arith))

  streams_bytes : GoodHeader l → flat stream_bytes (stream_list l) ≡ take (8 * stream_count l) (drop (16 + 2 * unit_count l) l)
  unfolding stream_list stream_at
  streams_bytes g =
      let lent = g.layout.lent in
      records stream_bytes (stream_at l (unit_count l)) 8 (16 + 2 * unit_count l) l (stream_count l)
      (λ i h. stream_bytes_lem (16 + 2 * unit_count l + 8 * i) (omega arith))

  -- an accepted image is the image of its units and streams
  pub accepted_image : Accepted l → l ≡ image_of (unit_list l) (stream_list l)
  unfolding image_of unit_list stream_list
  accepted_image a =
      let g = a.header in
      let lent = g.layout.lent in
      let rest : take (8 * stream_count l) (drop (16 + 2 * unit_count l) l) ≡ drop (16 + 2 * unit_count l) l =
      take_all (8 * stream_count l) (drop (16 + 2 * unit_count l) l) (rw length-drop (omega arith)) in
      sym
      (rw (length-table (unit_at l) (unit_count l), length-table (stream_at l (unit_count l)) (stream_count l), header_bytes_lem g, units_bytes g, streams_bytes g, rest, ← drop-drop (2 * unit_count l) 16 l)
      (rw (take-append-drop (2 * unit_count l) (drop 16 l)) (take-append-drop 16 l)))

-- two accepted images that give the same flowsheet are the same bytes
pub same_image : (l m : List ℕ) → Bytes l → Bytes m → answer_of l ≡ 0 → answer_of m ≡ 0 → (reading_of l).sheet ≡ (reading_of m).sheet → l ≡ m
same_image l m bl bm al am e =
    let sl : (reading_of l).sheet ≡ sheet_of (unit_list l) (stream_list l) = ap (λ (r : Reading). r.sheet) (reading_accepted l al) in
    let sm : (reading_of m).sheet ≡ sheet_of (unit_list m) (stream_list m) = ap (λ (r : Reading). r.sheet) (reading_accepted m am) in
    let s = sheet_same (unit_list l) (unit_list m) (stream_list l) (stream_list m) (sym sl ∙ e ∙ sm) in
    accepted_image l bl (is_accepted l al) ∙ rw (s.0, s.1) (sym (accepted_image m bm (is_accepted m am)))
