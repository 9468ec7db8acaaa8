-- The flowsheet image: where its records lie, the number that each is refused with, and what reading it answers. "Numbers are 16 bits,
-- little-endian. Header, 16 bytes: edition (1), unit count U, stream count S, offset of the unit table, offset of the stream table, total
-- length, then four zero bytes. The unit table starts at 16, the stream table follows at once."
use Rattle.std.specs.Prelude.{Bool, cond, ◌&&◌, List, [], ℕ, zero, suc, ◌+◌, ◌*◌, eqb, ltb, leb, length, Result, Ok, Err}
use Rattle.rows.specs.Rows.{table}
use Rattle.words.specs.Words.{number_at}
use Rattle.flowsheet.specs.Sheet.{sheet_of, number_fault, stream_fault}
use Rattle.flowsheet.specs.declared.Flowsheet.{Flowsheet}
use Rattle.flowsheet.specs.declared.Header.{Header}
use Rattle.flowsheet.specs.declared.Stream.{Stream}

-- the number a, or b where a is none: "in order"
abbrev pub first : ℕ → ℕ → ℕ
first zero b = b
first (suc a) b = suc a

-- the first number that f gives at the n places from i on: "reading stops at the first record that is refused"
abbrev pub first_from : (ℕ → ℕ) → ℕ → ℕ → ℕ
first_from f i zero = 0
first_from f i (suc n) = first (f i) (first_from f (suc i) n)

-- the number that stands before place i, 0 where none does
abbrev pub before : (ℕ → ℕ) → ℕ → ℕ
before f zero = 0
before f (suc i) = f i

-- what is read, where its number of refusal is 0; else that number
abbrev pub answered : {A : Type 0} → ℕ → A → Result A ℕ
answered zero a = Ok a
answered (suc k) a = Err (suc k)

-- ---- the header

abbrev pub edition_of : List ℕ → ℕ
edition_of l = number_at 2 l 0

abbrev pub unit_count : List ℕ → ℕ
unit_count l = number_at 2 l 2

abbrev pub stream_count : List ℕ → ℕ
stream_count l = number_at 2 l 4

abbrev pub spare_of : List ℕ → ℕ
spare_of l = number_at 4 l 12

-- "The unit table starts at 16, the stream table follows at once, and the total is 16 + 2U + 8S. The lent length equals the total."
unfoldable pub laid_out : List ℕ → ℕ → ℕ → Bool
laid_out l u s =
    eqb (number_at 2 l 6) 16
    && (eqb (number_at 2 l 8) (16 + 2 * u)
    && (eqb (number_at 2 l 10) (16 + 2 * u + 8 * s)
    && eqb (length l) (16 + 2 * u + 8 * s)))

-- 1 to 5, in order
unfoldable pub header_number : List ℕ → ℕ
header_number l =
    cond (ltb (length l) 16) 1
    (cond (eqb (edition_of l) 1)
    (cond (eqb (spare_of l) 0)
    (cond (leb (unit_count l) 64 && leb (stream_count l) 256)
    (cond (laid_out l (unit_count l) (stream_count l)) 0 5)
    4)
    3)
    2)

unfoldable pub header_of : List ℕ → Result Header ℕ
header_of l = answered (header_number l) (record { units = unit_count l; streams = stream_count l })

-- ---- a table whose place i holds the record `at i`

-- the number that record i is refused with: k where its number does not rise, else what is wrong with the rest of it
abbrev pub fault_at : {A : Type 0} → (A → ℕ) → ℕ → (A → ℕ) → (ℕ → A) → ℕ → ℕ
fault_at number k fault at i = first (number_fault (number (at i)) (before (λ (j : ℕ). number (at j)) i) k) (fault (at i))

-- the n records, or the first number that one is refused with
abbrev pub table_read : {A : Type 0} → (ℕ → ℕ) → (ℕ → A) → ℕ → Result (List A) ℕ
table_read f at n = answered (first_from f 0 n) (table at n)

-- ---- the unit records

-- the unit in place i of the table
unfoldable pub unit_at : List ℕ → ℕ → ℕ
unit_at l i = number_at 2 l (16 + 2 * i)

-- 6, "unit number out of range or not rising"
unfoldable pub unit_number_at : List ℕ → ℕ → ℕ
unit_number_at l i = number_fault (unit_at l i) (before (unit_at l) i) 6

-- 6 or 0 for a table of n units
abbrev pub units_number : List ℕ → ℕ → ℕ
units_number l n = first_from (unit_number_at l) 0 n

unfoldable pub unit_table_of : List ℕ → ℕ → Result (List ℕ) ℕ
unit_table_of l n = table_read (unit_number_at l) (unit_at l) n

-- ---- the stream records

-- the stream whose record begins at `at`: "number, source, receiver, weight"
unfoldable pub stream_held : List ℕ → ℕ → Stream
stream_held l at =
    record {
      number = number_at 2 l at;
      source = number_at 2 l (at + 2);
      receiver = number_at 2 l (at + 4);
      weight = number_at 2 l (at + 6);
    }

-- "each tried for 7, 8, 9, 10": 7 is "stream number out of range or not rising"
unfoldable pub stream_number : List ℕ → ℕ → Stream → ℕ
stream_number us last s = first (number_fault s.number last 7) (stream_fault us s)

-- the stream in place i of the table that follows u units
unfoldable pub stream_at : List ℕ → ℕ → ℕ → Stream
stream_at l u i = stream_held l (16 + 2 * u + 8 * i)

abbrev pub stream_before : List ℕ → ℕ → ℕ → ℕ
stream_before l u i = before (λ (j : ℕ). (stream_at l u j).number) i

unfoldable pub stream_number_at : List ℕ → ℕ → List ℕ → ℕ → ℕ
stream_number_at l u us i = stream_number us (stream_before l u i) (stream_at l u i)

-- 7 to 10 or 0 for a table of n streams
abbrev pub streams_number : List ℕ → ℕ → List ℕ → ℕ → ℕ
streams_number l u us n = first_from (stream_number_at l u us) 0 n

unfoldable pub stream_table_of : List ℕ → ℕ → List ℕ → ℕ → Result (List Stream) ℕ
stream_table_of l u us n = table_read (stream_number_at l u us) (stream_at l u) n

-- ---- the image

-- the units and the streams of an image
unfoldable pub unit_list : List ℕ → List ℕ
unit_list l = table (unit_at l) (unit_count l)

unfoldable pub stream_list : List ℕ → List Stream
stream_list l = table (stream_at l (unit_count l)) (stream_count l)

-- "1 to 5 in order, units in table order, then streams in table order"; 0 where the image is accepted
unfoldable pub answer_of : List ℕ → ℕ
answer_of l =
    first (header_number l)
    (first (units_number l (unit_count l)) (streams_number l (unit_count l) (unit_list l) (stream_count l)))

-- what reading an image answers: 0 and the flowsheet, or the refusal's number and an empty flowsheet
pub record Reading : Type 0 where
  pub number : ℕ
  pub sheet : Flowsheet

unfoldable pub refused_with : ℕ → Reading
refused_with k = record { number = k; sheet = sheet_of [] [] }

abbrev pub read_as : ℕ → List ℕ → Reading
read_as zero l = record { number = 0; sheet = sheet_of (unit_list l) (stream_list l) }
read_as (suc k) l = refused_with (suc k)

unfoldable pub reading_of : List ℕ → Reading
reading_of l = read_as (answer_of l) l
