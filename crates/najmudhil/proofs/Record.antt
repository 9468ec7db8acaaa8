-- On Moved the record holds the 8 bytes of x as they stood, and then those of y: an accepted x is a number, and the pattern of the
-- double that a number's bytes hold is these bytes. Assumes nothing.
use mathlib.Core.Bool.{false, not}
use mathlib.Core.List.{List, [], ◌∷◌, ◌++◌, map, append-nil}
use mathlib.Core.Logic.{◌⊎◌, inl, inr}
use mathlib.Core.Path.{◌≡◌, refl, sym, ◌∙◌, ap}
use Prim.Native.Nat.{ℕ, ◌+◌, ◌≤◌}
use native.Mathlib.Omega.{arith}
use lib.Dec.{T}
use lib.Ieee.{Float, binary64, to_bits, is_nan}
use lib.Ieee.Bits.{to_bits-of_bits}
use lib.ListN.{length, length-append, drop_of_length-le}
use lib.Seq.{sets, sets-eq, take_all}
use Rattle.std.proofs.lemmas.Bool.{true_from_ne_false}
use Rattle.converge.specs.Answer.{Answer}
use Rattle.converge.specs.Row.{Stepped, records_of, verdict_of}
use Rattle.converge.specs.declared.History.{History}
use Rattle.words.specs.Words.{number_at, bytes_of, with_number}
use Rattle.converge.proofs.Lent.{stepped-moved}
use Rattle.converge.proofs.Rows.{records_x, records_y}
use Rattle.converge.proofs.Sizes.{finite_number}
use Rattle.converge.proofs.Verdicts.{one_verdict}
use Rattle.words.proofs.Numbers.{Bytes, number_lt, length_bytes, bytes_of_number, sets-append}
use Rattle.najmudhil.specs.Step.{Lent, double_at, values_of, with_doubles}
use Rattle.najmudhil.proofs.Codes.{accepted_fit}
use Rattle.najmudhil.proofs.Lent.{Handed, wrong, held, out, xs, ys, records, moves, held_answer, bytes_long, bytes_moved}

-- the record of one x and one y, x first
one_record : (ps : List History) (x y : Float) → map (λ (p : History). p.x) ps ≡ x ∷ [] → map (λ (p : History). p.y) ps ≡ y ∷ [] → values_of ps ≡ x ∷ y ∷ []
one_record (p ∷ []) x y e f = cc
one_record _ x y e f = let z : ◌≡◌ {A = ℕ} 0 1 = cc in absurd (omega arith)

-- two numbers of 8 bytes written over 16 bytes are their bytes
two_numbers : (l : List ℕ) (v w : ℕ) → length l ≡ 16 → with_number 8 (with_number 8 l 0 v) 8 w ≡ bytes_of 8 v ++ bytes_of 8 w
unfolding with_number
two_numbers l v w h =
    let n : length (bytes_of 8 v ++ bytes_of 8 w) ≡ 16 = rw (length-append (bytes_of 8 v) (bytes_of 8 w), length_bytes 8 v, length_bytes 8 w) in
    let m : 8 ≡ 0 + length (bytes_of 8 v) = omega (arith, length_bytes 8 v) in
    let s : sets (sets l 0 (bytes_of 8 v)) 8 (bytes_of 8 w) ≡ sets l 0 (bytes_of 8 v ++ bytes_of 8 w) =
    ap (λ (k : ℕ). sets (sets l 0 (bytes_of 8 v)) k (bytes_of 8 w)) m ∙ sets-append l 0 (bytes_of 8 v) (bytes_of 8 w) in
    s ∙ sets-eq (bytes_of 8 v ++ bytes_of 8 w) l 0 (omega (arith, n))
    ∙ ap (λ (r : List ℕ). bytes_of 8 v ++ bytes_of 8 w ++ r) (drop_of_length-le l {i = 0 + length (bytes_of 8 v ++ bytes_of 8 w)} (omega (arith, n))) ∙ append-nil (bytes_of 8 v ++ bytes_of 8 w)

-- the bytes of a number in the whole row are the row
bytes_back : (l : List ℕ) → Bytes l → length l ≡ 8 → bytes_of 8 (number_at 8 l 0) ≡ l
bytes_back l b h = bytes_of_number 8 l 0 b (omega arith) ∙ take_all 8 l (omega arith)

-- the pattern of the double that 8 bytes hold is the number that they hold
pattern_back : (l : List ℕ) → Bytes l → T (not (is_nan (double_at l 0))) → to_bits binary64 (double_at l 0) ≡ number_at 8 l 0
unfolding double_at
pattern_back l b f = to_bits-of_bits binary64 (number_at 8 l 0) (number_lt 8 l 0 b) f

-- a step that moved is not refused
no_refusal : (r k : ℕ) → k ≡ 4 → ((r ≡ 0) × (1 ≤ k) × (k ≤ 4)) ⊎ ((30 ≤ r) × (r ≤ 34) × (k ≡ 0)) → r ≡ 0
no_refusal r k e (inl h) = h.0
no_refusal r k e (inr h) = absurd (omega (arith, h.2))

pub moved_record : (h : Handed) → Bytes h.x → wrong h ≡ false → (held h).answer.number ≡ 4 → (out h).past ≡ h.x ++ bytes_of 8 (to_bits binary64 h.y)
moved_record h b w k =
    let l = bytes_long h w in
    let e : (verdict_of (xs h) (ys h) (records h) (moves h) h.method h.tolerance h.limit).number ≡ 4 = sym (ap (λ (v : Answer). v.number) (held_answer h)) ∙ k in
    let z : (held h).answer.refusal ≡ 0 =
    ap (λ (v : Answer). v.refusal) (held_answer h)
    ∙ no_refusal _ _ e (one_verdict (xs h) (ys h) (records h) (moves h) h.method h.tolerance h.limit) in
    let f : T (not (is_nan (double_at h.x 0))) = finite_number (double_at h.x 0) (true_from_ne_false _ (λ u. accepted_fit h z (inl u))) in
    let q : to_bits binary64 (double_at h.x 0) ≡ number_at 8 h.x 0 = pattern_back h.x b f in
    let v : values_of (held h).past ≡ double_at h.x 0 ∷ h.y ∷ [] =
    ap (λ (s : Stepped). values_of s.past) (stepped-moved (xs h) (ys h) (records h) (moves h) h.method h.tolerance h.limit e)
    ∙ one_record (records_of (xs h) (ys h)) (double_at h.x 0) h.y (records_x (xs h) (ys h) refl) (records_y (xs h) (ys h) refl) in
    ap (λ (r : Lent). r.past) (bytes_moved h w z k)
    ∙ ap (with_doubles h.past 0) v
    ∙ two_numbers h.past (to_bits binary64 (double_at h.x 0)) (to_bits binary64 h.y) l.1
    ∙ rw (q, bytes_back h.x b l.0)
