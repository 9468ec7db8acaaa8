-- The bound on Moved, as the C program sees it: from count 0, with one limit kept and each count's bytes handed on, Moved comes at
-- most as often as the limit says. The count in the bytes is tied to the answer in the bytes, and the rest is cited. Assumes nothing.
use mathlib.Core.Bool.{false, cond}
use mathlib.Core.List.{List}
use mathlib.Core.Logic.{◌⊎◌, inl, ◌↔◌}
use mathlib.Core.Path.{◌≡◌, refl, sym, ◌∙◌, ap}
use Prim.Native.Nat.{ℕ, ◌+◌, ◌<◌, ◌≤◌, ◌^◌}
use native.Mathlib.Omega.{arith}
use borrow.Author.Tests.{ne_eqb}
use lib.Dec.{eqb}
use lib.Ieee.{Float, binary64, to_bits}
use lib.ListN.{length, set}
use lib.Seq.{get_or-set_same}
use Rattle.converge.specs.Answer.{Answer}
use Rattle.words.specs.Words.{number_at}
use Rattle.converge.proofs.Bound.{Tied, Calls, tied_exactly, at_most_limit, stepped_tied}
use Rattle.converge.proofs.Verdicts.{moved_accepted}
use Rattle.words.proofs.Numbers.{read_back, read_elsewhere}
use Rattle.najmudhil.specs.Step.{Lent, BytesStep, double_at, with_answer, bytes_stepped}
use Rattle.najmudhil.proofs.Lent.{Handed, wrong, held, out, xs, ys, records, moves, held_answer, bytes_long, ways}

-- The answer that stands in what is returned and in the answer's bytes; a refusal has no verdict.
abbrev pub seen : ℕ → List ℕ → Answer
seen code answer = record { refusal = code; number = cond (eqb code 0) (number_at 1 answer 0) 0; carried = double_at answer 1 }

-- the number that is written is the one that is read
answer_number : (l : List ℕ) (a : Answer) → 0 < length l → number_at 1 (with_answer l a) 0 ≡ a.number
unfolding number_at
answer_number l a h =
    let e = read_elsewhere 8 (set l 0 a.number) 1 (to_bits binary64 a.carried) 1 0 (inl (omega arith)) in
    e ∙ rw (get_or-set_same l 0 a.number 0 h) (omega arith)

-- 0 isn't the number of Moved
no_move : ◌≡◌ {A = ℕ} 0 4 → ⊥
no_move z = omega (arith, z)

-- where the verdict isn't Moved and the count stays
idle : (limit n : ℕ) (a : Answer) → (a.number ≡ 4 → ⊥) → Tied limit n a n
idle limit n a k = record { moves = λ e. absurd (k e); below = λ e. absurd (k e); stays = λ f. refl }

-- what is returned and left, tied to the count that the bytes held
abbrev Ties : ℕ → List ℕ → Lent → Type 0
Ties limit count l = Tied limit (number_at 2 count 0) (seen l.code l.answer) (number_at 2 l.count 0)

bytes_tied : (h : Handed) → Ties h.limit h.count (out h)
bytes_tied h =
    ways h (Ties h.limit h.count) (λ w. idle h.limit (moves h) _ no_move) (λ w k. idle h.limit (moves h) _ (rw (ne_eqb _ _ k) no_move))
    (λ w z k. idle h.limit (moves h) _ (λ e. k (sym (number w) ∙ e)))
    (λ w z k.
    let g = read_back 2 h.count 0 (held h).count (omega (arith, (bytes_long h w).2)) (room k) in
    record { moves = λ e. g ∙ t.moves k; below = λ e. t.below k; stays = λ e. absurd (e (number w ∙ k)) })
  where
    t : Tied h.limit (moves h) (held h).answer (held h).count
    t = stepped_tied (xs h) (ys h) (records h) (moves h) h.method h.tolerance h.limit

    number : wrong h ≡ false → number_at 1 (with_answer h.answer (held h).answer) 0 ≡ (held h).answer.number
    number w = answer_number h.answer (held h).answer (omega (arith, (bytes_long h w).3))

    -- the count after Moved has room in its two bytes
    room : (held h).answer.number ≡ 4 → (held h).count < 256 ^ 2
    room k =
        let m = moved_accepted (xs h) (ys h) (records h) (moves h) h.method h.tolerance h.limit (sym (ap (λ (a : Answer). a.number) (held_answer h)) ∙ k) in
        let most = m.0.most in
        omega (arith, t.moves k, m.1, most)

-- A call of the exported step with any bytes, y, method and tolerance, whose count's bytes hold n at entry and m at exit, and which is seen to answer a.
pub record BytesCall (limit n : ℕ) (a : Answer) (m : ℕ) : Type 0 where
  pub x : List ℕ
  pub y : Float
  pub past : List ℕ
  pub count : List ℕ
  pub method : ℕ
  pub tolerance : Float
  pub answer : List ℕ
  pub code : ℕ
  pub x' : List ℕ
  pub past' : List ℕ
  pub count' : List ℕ
  pub answer' : List ℕ
  pub promised : BytesStep (bytes_stepped x y past count method tolerance limit answer) code x' past' count' answer'
  pub entered : number_at 2 count 0 ≡ n
  pub answered : seen code answer' ≡ a
  pub left : number_at 2 count' 0 ≡ m

pub bytes_call_tied : (limit n : ℕ) (a : Answer) (m : ℕ) → BytesCall limit n a m → Tied limit n a m
bytes_call_tied limit n a m c =
    let p = c.promised in
    let t = bytes_tied (record { x = c.x; y = c.y; past = c.past; count = c.count; method = c.method; tolerance = c.tolerance; limit = limit; answer = c.answer }) in
    let u : Tied limit (number_at 2 c.count 0) (seen c.code c.answer') (number_at 2 c.count' 0) = rw (p.code, p.answer, p.count) t in
    rw (← c.entered, ← c.answered, ← c.left) u

-- A count that isn't tied to the Moved answers is shut out: the bytes hold one more exactly on Moved, and else what they held.
pub bytes_count : (limit n : ℕ) (a : Answer) (m : ℕ) → BytesCall limit n a m → ((m ≡ n + 1) ↔ (a.number ≡ 4)) × ((m ≡ n) ⊎ (m ≡ n + 1))
bytes_count limit n a m c = tied_exactly limit n a m (bytes_call_tied limit n a m c)

-- Moved comes at most `limit` times.
pub bytes_moves : (limit k l : ℕ) → Calls (BytesCall limit) 0 k l → k ≤ limit
bytes_moves limit k l = at_most_limit limit (BytesCall limit) (bytes_call_tied limit)
