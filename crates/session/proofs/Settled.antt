-- What the public functions answer and leave is settled: two results that a statement allows are equal. Assumes nothing.
use Rattle.std.proofs.Common.{◌≡◌, ℕ, List, [], Result, cond, eqb, refl, sym, ◌∙◌}
use Rattle.flowsheet.specs.Sheet.{sheet_of}
use Rattle.flowsheet.proofs.Settled.{refusal_from as sheet_from}
use Rattle.flowsheet.proofs.Told.{by_number, one_answer}
use Rattle.flowsheet.specs.declared.Refusal.{Refusal as sheet_refusal}
use Rattle.flowsheet.specs.declared.Refusal.TheVariants.{Short}
use Rattle.planner.specs.Answer.{code_of as planner_code}
use Rattle.planner.specs.declared.Refusal.{Refusal as planner_refusal}
use Rattle.planner.proofs.SettledPlan.{one_code as planner_one_code}
use Rattle.session.specs.Answer.{number_of, code_of, Editing, Opening}
use Rattle.session.specs.Session.{session_of}
use Rattle.session.specs.declared.Edit.{Edit}
use Rattle.session.specs.declared.Refusal.{Refusal}
use Rattle.session.specs.declared.Refusal.TheVariants.{Sheet, LargeBlock, ShortMemory, Number, Held, Full, NotHeld, InUse, LargeAfter, NoSession}
use Rattle.session.specs.declared.Session.{Session}
use Rattle.session.proofs.Answers.{number_some}

-- a number is that of one refusal
refusal_from : ℕ → Refusal
refusal_from n =
    cond (eqb n 11) LargeBlock
    (cond (eqb n 12) ShortMemory
    (cond (eqb n 20) Number
    (cond (eqb n 21) Held
    (cond (eqb n 22) Full
    (cond (eqb n 23) NotHeld
    (cond (eqb n 24) InUse (cond (eqb n 25) LargeAfter (cond (eqb n 26) NoSession (Sheet (sheet_from n))))))))))

from_number : (r : Refusal) → refusal_from (number_of r) ≡ r
unfolding refusal_from sheet_from
from_number (Sheet Short) = refl
from_number (Sheet _) = refl
from_number _ = refl

one_refusal : (r s : Refusal) → number_of r ≡ number_of s → r ≡ s
one_refusal = by_number number_of refusal_from from_number

-- two answers that carry no value and have one code are equal
pub one_code : (r s : Result (Unit {0}) Refusal) → code_of r ≡ code_of s → r ≡ s
one_code = one_answer number_of one_refusal number_some code_of (λ n. n) (λ n. tt) (λ u. refl) (λ u. refl) (λ c. refl)

pub number_settled : (r : Refusal) (a b : ℕ) → a ≡ number_of r → b ≡ number_of r → a ≡ b
number_settled r a b e f = e ∙ sym f

pub sheet_settled : (why : sheet_refusal) (r s : Refusal) → r ≡ Sheet why → s ≡ Sheet why → r ≡ s
sheet_settled why r s e f = e ∙ sym f

pub empty_settled : (r s : Session) → r ≡ session_of (sheet_of [] []) → s ≡ session_of (sheet_of [] []) → r ≡ s
empty_settled r s e f = e ∙ sym f

pub edit_settled : (e : Edit) (s : Session) (work : List ℕ) (r r' : Result (Unit {0}) Refusal) (t t' : Session) (w w' : List ℕ)
    → Editing e s work (code_of r) t w → Editing e s work (code_of r') t' w' → (r ≡ r') × (t ≡ t') × (w ≡ w')
edit_settled e s work r r' t t' w w' p q =
    (one_code r r' (p.number ∙ sym q.number), p.session ∙ sym q.session, p.memory ∙ sym q.memory)

pub open_settled : (s : Session) (image work : List ℕ) (r r' : Result (Unit {0}) planner_refusal) (t t' : Session) (w w' : List ℕ)
    → Opening s image work (planner_code r) t w → Opening s image work (planner_code r') t' w' → (r ≡ r') × (t ≡ t') × (w ≡ w')
open_settled s image work r r' t t' w w' p q =
    (planner_one_code r r' (p.number ∙ sym q.number), p.session ∙ sym q.session, p.memory ∙ sym q.memory)
