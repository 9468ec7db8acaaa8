-- The statements settle everything: two results that one allows are equal, with all that is lent. Assumes nothing.
use mathlib.Core.Path.{◌≡◌, refl, sym, ◌∙◌, ap}
use mathlib.Core.Bool.{cond}
use mathlib.Core.List.{List, [], ◌∷◌}
use Prim.Native.Nat.{ℕ}
use lib.Dec.{eqb}
use lib.Ieee.{Float}
use Rattle.converge.specs.Answer.{Answer, number_of, answer_of}
use Rattle.converge.specs.Row.{Stepped}
use Rattle.converge.specs.Promise.{ValueStep, Rows as TwoRows, RowStep, HistoryStep}
use Rattle.converge.specs.declared.History.{History}
use Rattle.converge.specs.declared.Refusal.{Refusal}
use Rattle.converge.specs.declared.Refusal.TheVariants.{Rows, Tolerance, Limit, Values, Records}
use Rattle.converge.specs.declared.Step.{Step}
use Rattle.converge.specs.declared.Verdict.{Verdict}
use Rattle.converge.specs.declared.Verdict.TheVariants.{Settled, Spent, Strayed, Moved, Refused}

-- ---- the numbers and values of an answer tell which case of the enum it is

refusal_back : ℕ → Refusal
refusal_back n = cond (eqb n 30) Rows (cond (eqb n 31) Tolerance (cond (eqb n 32) Limit (cond (eqb n 33) Values Records)))

verdict_back : Answer → Verdict
verdict_back a =
    cond (eqb a.number 1) (Settled a.carried)
    (cond (eqb a.number 2) (Spent a.carried)
    (cond (eqb a.number 3) (Strayed a.carried) (cond (eqb a.number 4) (Moved a.carried) (Refused (refusal_back a.refusal)))))

back_is : (v : Verdict) → verdict_back (answer_of v) ≡ v
unfolding verdict_back refusal_back
back_is (Settled d) = refl
back_is (Refused Rows) = refl
back_is _ = refl

pub answer_one : (v w : Verdict) → answer_of v ≡ answer_of w → v ≡ w
answer_one v w e = sym (back_is v) ∙ ap verdict_back e ∙ back_is w

pub number_settled : (r : Refusal) (m n : ℕ) → m ≡ number_of r → n ≡ number_of r → m ≡ n
number_settled r m n e f = e ∙ sym f

-- ---- the three public functions

made : Verdict → Float → History → ℕ → Step
made v x p n = record { verdict = v; x = x; past = p; count = n }

pub value_settled : (s : Stepped) (r r' : Step) → ValueStep s r → ValueStep s r' → r ≡ r'
unfolding made
value_settled s r r' k k' =
    same (answer_one r.verdict r'.verdict (k.verdict ∙ sym k'.verdict)) (first (k.x ∙ sym k'.x)) (first (k.past ∙ sym k'.past)) (k.count ∙ sym k'.count)
  where
    first : {A : Type 0} {a b : A} → a ∷ [] ≡ b ∷ [] → a ≡ b
    first e = cc

    same : r.verdict ≡ r'.verdict → r.x ≡ r'.x → r.past ≡ r'.past → r.count ≡ r'.count
        → made r.verdict r.x r.past r.count ≡ made r'.verdict r'.x r'.past r'.count
    same e f g h = rw (e, f, g, h)

pub rows_settled : (s : TwoRows) (r r' : Verdict) (x x' px px' py py' : List Float) (n n' : ℕ)
    → RowStep s r x px py n → RowStep s r' x' px' py' n' → (r ≡ r') × (x ≡ x') × (px ≡ px') × (py ≡ py') × (n ≡ n')
rows_settled s r r' x x' px px' py py' n n' k k' =
    (answer_one r r' (k.verdict ∙ sym k'.verdict), k.x ∙ sym k'.x, k.past_x ∙ sym k'.past_x, k.past_y ∙ sym k'.past_y, k.count ∙ sym k'.count)

pub history_settled : (s : Stepped) (r r' : Verdict) (x x' : List Float) (past past' : List History) (n n' : ℕ)
    → HistoryStep s r x past n → HistoryStep s r' x' past' n' → (r ≡ r') × (x ≡ x') × (past ≡ past') × (n ≡ n')
history_settled s r r' x x' past past' n n' k k' =
    (answer_one r r' (k.verdict ∙ sym k'.verdict), k.x ∙ sym k'.x, k.past ∙ sym k'.past, k.count ∙ sym k'.count)
