-- What each public function answers is settled: two results that its statement allows are equal. Assumes nothing.
use Rattle.std.proofs.Common.{Bool, ◌≡◌, ℕ, ◌∷◌, List, [], Option, Result, get_or, refl, sym, ◌∙◌}
use Rattle.flowsheet.specs.Answers.{number_of, fault_of, reading}
use Rattle.flowsheet.specs.Good.{is_good}
use Rattle.flowsheet.specs.Image.{refused_with, reading_of}
use Rattle.flowsheet.specs.Sheet.{sheet_of, place_of, ends_of, weight_fault, stream_fault}
use Rattle.flowsheet.specs.declared.Flowsheet.{Flowsheet}
use Rattle.flowsheet.specs.declared.Refusal.{Refusal}
use Rattle.flowsheet.specs.declared.Refusal.TheVariants.{Short, Edition, Spare, Counts, Layout, UnitNumber, StreamNumber, End, Outside, Weight}
use Rattle.flowsheet.specs.declared.Stream.{Stream}
use Rattle.flowsheet.proofs.Tables.{number_some}
use Rattle.flowsheet.proofs.Told.{by_number, one_answer}

-- a number is that of one refusal
unfoldable pub refusal_from : ℕ → Refusal
refusal_from n =
    get_or (Short ∷ (Short ∷ (Edition ∷ (Spare ∷ (Counts ∷ (Layout ∷ (UnitNumber ∷ (StreamNumber ∷ (End ∷ (Outside ∷ (Weight ∷ []))))))))))) n Short

from_number : (r : Refusal) → refusal_from (number_of r) ≡ r
unfolding refusal_from
from_number Short = refl
from_number _ = refl

pub one_refusal : (r s : Refusal) → number_of r ≡ number_of s → r ≡ s
one_refusal = by_number number_of refusal_from from_number

-- two answers with the same reading are equal
pub one_reading : (r s : Result Flowsheet Refusal) → reading r ≡ reading s → r ≡ s
unfolding refused_with
one_reading =
    one_answer number_of one_refusal number_some reading (λ x. x.number) (λ x. x.sheet) (λ f. refl) (λ f. refl) (λ c. refl)

-- two answers that carry no value and have the same number are equal
pub one_fault : (r s : Result (Unit {0}) Refusal) → fault_of r ≡ fault_of s → r ≡ s
one_fault = one_answer number_of one_refusal number_some fault_of (λ n. n) (λ n. tt) (λ u. refl) (λ u. refl) (λ c. refl)

pub from : (e : Refusal) (r s : ℕ) → r ≡ number_of e → s ≡ number_of e → r ≡ s
from e r s p q = p ∙ sym q

pub read : (l : List ℕ) (r s : Result Flowsheet Refusal) → reading r ≡ reading_of l → reading s ≡ reading_of l → r ≡ s
read l r s p q = one_reading r s (p ∙ sym q)

pub empty : (r s : Flowsheet) → r ≡ sheet_of [] [] → s ≡ sheet_of [] [] → r ≡ s
empty r s p q = p ∙ sym q

pub place_of_lem : (us : List ℕ) (n : ℕ) (r s : Option ℕ) → r ≡ place_of us n → s ≡ place_of us n → r ≡ s
place_of_lem us n r s p q = p ∙ sym q

pub ends : (us : List ℕ) (t : Stream) (r s : Option (ℕ × ℕ)) → r ≡ ends_of us t → s ≡ ends_of us t → r ≡ s
ends us t r s p q = p ∙ sym q

pub weight_fault_lem : (w : ℕ) (r s : Result (Unit {0}) Refusal) → fault_of r ≡ weight_fault w → fault_of s ≡ weight_fault w → r ≡ s
weight_fault_lem w r s p q = one_fault r s (p ∙ sym q)

pub stream_fault_lem : (us : List ℕ) (t : Stream) (r s : Result (Unit {0}) Refusal) → fault_of r ≡ stream_fault us t → fault_of s ≡ stream_fault us t → r ≡ s
stream_fault_lem us t r s p q = one_fault r s (p ∙ sym q)

pub is_good_lem : (us : List ℕ) (ss : List Stream) (r s : Bool) → r ≡ is_good us ss → s ≡ is_good us ss → r ≡ s
is_good_lem us ss r s p q = p ∙ sym q
