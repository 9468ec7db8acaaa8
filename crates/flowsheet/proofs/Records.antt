-- What the answers of an image's parts tell: that nothing was refused and what was read, or the number that is refused with. Assumes nothing.
use Rattle.std.proofs.Common.{◌≡◌, ℕ, zero, suc, List, Ok, refl, ap, ◌∙◌}
use Rattle.rows.specs.Rows.{table}
use Rattle.flowsheet.specs.Answers.{number_in}
use Rattle.flowsheet.specs.Image.{answered, header_number, header_of, fault_at, table_read, unit_at, unit_number_at, units_number, unit_table_of, stream_number, stream_at, stream_number_at, streams_number, stream_table_of, unit_list, stream_list, answer_of, read_as, refused_with, reading_of}
use Rattle.flowsheet.specs.Sheet.{sheet_of, stream_fault}
use Rattle.flowsheet.specs.declared.Stream.{Stream}
use Rattle.flowsheet.proofs.First.{first_or_none, first_from_same}

module _ {A : Type 0} where
  pub number_answered : (k : ℕ) (a : A) → number_in (answered k a) ≡ k
  number_answered zero a = refl
  number_answered (suc k) a = refl

  pub answered_read : (k : ℕ) (a x : A) → Ok x ≡ answered k a → x ≡ a
  answered_read zero a x e = cc
  answered_read (suc k) a x e = absurd (cc)

-- ---- the number of each part's answer

pub header_number_lem : (l : List ℕ) → number_in (header_of l) ≡ header_number l
unfolding header_of
header_number_lem l = number_answered (header_number l) _

pub units_number_lem : (l : List ℕ) (n : ℕ) → number_in (unit_table_of l n) ≡ units_number l n
unfolding unit_table_of
units_number_lem l n = number_answered (units_number l n) _

pub streams_number_lem : (l : List ℕ) (u : ℕ) (us : List ℕ) (n : ℕ) → number_in (stream_table_of l u us n) ≡ streams_number l u us n
unfolding stream_table_of
streams_number_lem l u us n = number_answered (streams_number l u us n) _

-- ---- the two tables as tables of records

pub unit_table : (l : List ℕ) (n : ℕ) → table_read (fault_at (λ (u : ℕ). u) 6 (λ (u : ℕ). 0) (unit_at l)) (unit_at l) n ≡ unit_table_of l n
unfolding unit_table_of unit_number_at
unit_table l n =
    ap (λ (k : ℕ). answered k (table (unit_at l) n))
    (first_from_same _ (unit_number_at l) 0 n (λ i. first_or_none (unit_number_at l i)))

pub stream_number_lem : (l : List ℕ) (u : ℕ) (us : List ℕ) (i : ℕ)
    → fault_at (λ (s : Stream). s.number) 7 (stream_fault us) (stream_at l u) i ≡ stream_number_at l u us i
unfolding stream_number_at stream_number
stream_number_lem l u us i = refl

pub stream_table : (l : List ℕ) (u : ℕ) (us : List ℕ) (n : ℕ)
    → table_read (fault_at (λ (s : Stream). s.number) 7 (stream_fault us) (stream_at l u)) (stream_at l u) n ≡ stream_table_of l u us n
unfolding stream_table_of
stream_table l u us n =
    ap (λ (k : ℕ). answered k (table (stream_at l u) n))
    (first_from_same _ (stream_number_at l u us) 0 n (stream_number_lem l u us))

-- ---- the whole

read_refused : (k : ℕ) (l : List ℕ) → (k ≡ 0 → ⊥) → read_as k l ≡ refused_with k
read_refused zero l f = absurd (f refl)
read_refused (suc k) l f = refl

-- an image whose answer is k is refused with k
pub reading_refused : (l : List ℕ) (k : ℕ) → answer_of l ≡ k → (k ≡ 0 → ⊥) → reading_of l ≡ refused_with k
unfolding reading_of
reading_refused l k e f = ap (λ (n : ℕ). read_as n l) e ∙ read_refused k l f

pub reading_accepted : (l : List ℕ) → answer_of l ≡ 0 → reading_of l ≡ record { number = 0; sheet = sheet_of (unit_list l) (stream_list l) }
unfolding reading_of
reading_accepted l e = rw e

-- the number of a reading is the answer
pub reading_number : (l : List ℕ) → (reading_of l).number ≡ answer_of l
unfolding reading_of refused_with
reading_number l = go (answer_of l)
  where
    go : (k : ℕ) → (read_as k l).number ≡ k
    go zero = refl
    go (suc k) = refl
