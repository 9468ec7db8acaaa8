-- What stands in the bytes after a step, by its four ways out: a wrong length, a refusal, a verdict at which nothing moves, and Moved. Assumes nothing.
use mathlib.Core.Bool.{Bool, true, false, not}
use mathlib.Core.List.{List, [], ◌∷◌}
use mathlib.Core.Logic.{⊎_elim}
use mathlib.Core.Path.{◌≡◌, refl, sym, ◌∙◌, ap, subst}
use Prim.Native.Nat.{ℕ}
use native.Mathlib.Omega.{arith}
use borrow.Author.Tests.{eqb-true, eq-eqb, ne_eqb, not-false}
use lib.Dec.{eqb}
use lib.Ieee.{Float}
use lib.ListN.{length, set}
use Rattle.std.proofs.lemmas.Bool.{or_parts, cases_Bool, cases_eq}
use Rattle.converge.specs.Answer.{Answer, answer_of, number_of, moved}
use Rattle.converge.specs.Promise.{ValueStep}
use Rattle.converge.specs.Row.{Stepped, verdict_of}
use Rattle.converge.specs.declared.History.{History}
use Rattle.converge.specs.declared.Refusal.{Refusal}
use Rattle.converge.specs.declared.Refusal.TheVariants.{Rows}
use Rattle.converge.specs.declared.Step.{Step}
use Rattle.converge.specs.declared.Verdict.TheVariants.{Moved, Refused}
use Rattle.words.specs.Words.{number_at, with_number}
use Rattle.converge.proofs.Lent.{stepped_answer}
use Rattle.najmudhil.specs.Step.{Lent, BytesStep, double_at, record_in, lent, values_of, with_doubles, with_answer, lengths_wrong, leaves, held_step, bytes_stepped}

-- where no length is wrong, each is the one agreed on
pub lengths_right : (x past count answer : ℕ) → lengths_wrong x past count answer ≡ false → (x ≡ 8) × (past ≡ 16) × (count ≡ 2) × (answer ≡ 9)
unfolding lengths_wrong
lengths_right x past count answer e =
    let a = or_parts (not (eqb x 8)) _ e in
    let b = or_parts (not (eqb past 16)) _ a.1 in
    let c = or_parts (not (eqb count 2)) (not (eqb answer 9)) b.1 in
    (eqb-true x 8 (not-false _ a.0), eqb-true past 16 (not-false _ b.0), eqb-true count 2 (not-false _ c.0), eqb-true answer 9 (not-false _ c.1))

-- a refusal's number is not 0
refusal_some : (e : Refusal) → number_of e ≡ 0 → ⊥
refusal_some Rows z = omega arith
refusal_some _ z = omega arith

-- a result that stands as a statement says
as_said : {s l : Lent} → s ≡ l → BytesStep s l.code l.x l.past l.count l.answer
as_said {s} {l} e =
    subst (λ (t : Lent). BytesStep t l.code l.x l.past l.count l.answer) (sym e)
    (record { code = refl; x = refl; past = refl; count = refl; answer = refl })

-- what the step over bytes is handed
pub record Handed : Type 0 where
  pub x : List ℕ
  pub y : Float
  pub past : List ℕ
  pub count : List ℕ
  pub method : ℕ
  pub tolerance : Float
  pub limit : ℕ
  pub answer : List ℕ

module _ (h : Handed) where
  -- whether a length is wrong, the step by value of what the bytes hold, and what stands after the step over bytes
  abbrev pub wrong : Bool
  wrong = lengths_wrong (length h.x) (length h.past) (length h.count) (length h.answer)

  abbrev pub held : Stepped
  held = held_step h.x h.y h.past h.count h.method h.tolerance h.limit

  abbrev pub out : Lent
  out = bytes_stepped h.x h.y h.past h.count h.method h.tolerance h.limit h.answer

  pub bytes_wrong : wrong ≡ true → out ≡ lent 30 h.x h.past h.count h.answer
  unfolding bytes_stepped
  bytes_wrong w = rw w

  pub out_short : wrong ≡ true → BytesStep out 30 h.x h.past h.count h.answer
  out_short w = as_said (bytes_wrong w)

  -- the rows of one value and the count that the bytes hold
  abbrev pub xs : List Float
  xs = double_at h.x 0 ∷ []

  abbrev pub ys : List Float
  ys = h.y ∷ []

  abbrev pub records : List History
  records = record_in h.past ∷ []

  abbrev pub moves : ℕ
  moves = number_at 2 h.count 0

  -- the step's answer is the verdict on them
  pub held_answer : held.answer ≡ verdict_of xs ys records moves h.method h.tolerance h.limit
  held_answer = stepped_answer xs ys records moves h.method h.tolerance h.limit

  -- ---- where no length is wrong
  module _ (w : wrong ≡ false) where
    pub bytes_long : (length h.x ≡ 8) × (length h.past ≡ 16) × (length h.count ≡ 2) × (length h.answer ≡ 9)
    bytes_long = lengths_right (length h.x) (length h.past) (length h.count) (length h.answer) w

    pub bytes_refused : (held.answer.refusal ≡ 0 → ⊥) → out ≡ lent held.answer.refusal h.x h.past h.count h.answer
    unfolding bytes_stepped leaves
    bytes_refused k = rw (w, ne_eqb _ _ k)

    pub bytes_kept : held.answer.refusal ≡ 0 → (held.answer.number ≡ 4 → ⊥) → out ≡ lent 0 h.x h.past h.count (with_answer h.answer held.answer)
    unfolding bytes_stepped leaves
    bytes_kept z k = rw (w, eq-eqb _ _ z, ne_eqb _ _ k)

    pub bytes_moved : held.answer.refusal ≡ 0 → held.answer.number ≡ 4
        → out
        ≡ lent 0 (with_doubles h.x 0 held.x) (with_doubles h.past 0 (values_of held.past)) (with_number 2 h.count 0 held.count) (with_answer h.answer held.answer)
    unfolding bytes_stepped leaves
    bytes_moved z k = rw (w, eq-eqb _ _ z, eq-eqb _ _ k)

    -- r is what the step by value gives for what the bytes hold
    module _ (r : Step) (p : ValueStep held r) where
      pub out_refused : (e : Refusal) → r.verdict ≡ Refused e → BytesStep out (number_of e) h.x h.past h.count h.answer
      out_refused e v =
          let a : number_of e ≡ held.answer.refusal = ap (λ (m : Answer). m.refusal) (sym (ap answer_of v) ∙ p.verdict) in
          as_said (rw a (bytes_refused (λ z. refusal_some e (a ∙ z))))

      -- at a verdict with a number other than 4 the answer alone is written
      pub out_kept : (number : ℕ) (carried : Float) → (number ≡ 4 → ⊥)
          → answer_of r.verdict ≡ record { refusal = 0; number = number; carried = carried }
          → BytesStep out 0 h.x h.past h.count (with_doubles (set h.answer 0 number) 1 (carried ∷ []))
      out_kept number carried k v =
          let a : held.answer ≡ record { refusal = 0; number = number; carried = carried } = sym p.verdict ∙ v in
          as_said
          (bytes_kept (ap (λ (m : Answer). m.refusal) a) (λ f. k (sym (ap (λ (m : Answer). m.number) a) ∙ f))
          ∙ ap (λ (m : Answer). lent 0 h.x h.past h.count (with_answer h.answer m)) a)

      pub out_moved : (carried : Float) → r.verdict ≡ Moved carried
          → BytesStep out 0
          (with_doubles h.x 0 (r.x ∷ [])) (with_doubles h.past 0 (values_of (r.past ∷ []))) (with_number 2 h.count 0 r.count)
          (with_doubles (set h.answer 0 4) 1 (carried ∷ []))
      out_moved carried v =
          let a : held.answer ≡ moved carried = sym p.verdict ∙ ap answer_of v in
          as_said (rw (← p.x, ← p.past, ← p.count, a) at (bytes_moved (ap (λ (m : Answer). m.refusal) a) (ap (λ (m : Answer). m.number) a)))

  -- what holds of each of the four holds of what stands after the step
  pub ways : (P : Lent → Type 0) → (wrong ≡ true → P (lent 30 h.x h.past h.count h.answer))
      → (wrong ≡ false → (held.answer.refusal ≡ 0 → ⊥) → P (lent held.answer.refusal h.x h.past h.count h.answer))
      → (wrong ≡ false → held.answer.refusal ≡ 0 → (held.answer.number ≡ 4 → ⊥) → P (lent 0 h.x h.past h.count (with_answer h.answer held.answer)))
      → (wrong ≡ false → held.answer.refusal ≡ 0 → held.answer.number ≡ 4
      → P (lent 0 (with_doubles h.x 0 held.x) (with_doubles h.past 0 (values_of held.past)) (with_number 2 h.count 0 held.count) (with_answer h.answer held.answer)))
      → P out
  ways P a b c d = ⊎_elim (λ w. subst P (sym (bytes_wrong w)) (a w)) right (cases_Bool wrong)
    where
      right : wrong ≡ false → P out
      right w =
          ⊎_elim
          (λ z.
          ⊎_elim
          (λ k. subst P (sym (bytes_moved w z k)) (d w z k))
          (λ k. subst P (sym (bytes_kept w z k)) (c w z k))
          (cases_eq held.answer.number 4))
          (λ k. subst P (sym (bytes_refused w k)) (b w k))
          (cases_eq held.answer.refusal 0)
