-- The part of the order row or of the torn row that a screen asks for. "The block's record says which part. It is handed that part of one of
-- the two rows, not a copy: of the order row for units, of the torn row for streams. A place whose record doesn't lie wholly in the block row
-- gives the empty front part of the order row; so does a span that runs beyond its row."
use Rattle.std.specs.Prelude.{cond, List, [], ◌≡◌, ℕ, ◌+◌, ◌*◌, leb, length, get_or, take, drop}
use Rattle.std.specs.Borrow.{Bor}
use Rattle.planner.specs.declared.Asked.{Asked}
use Rattle.planner.specs.declared.Asked.TheVariants.{Units, Tears}

-- the n numbers of a row from `first` on, or nothing where they run beyond it
abbrev pub span_of : List ℕ → ℕ → ℕ → List ℕ
span_of row first n = cond (leb (first + n) (length row)) (take n (drop first row)) []

abbrev pub span_asked : Asked → List ℕ → List ℕ → List ℕ → ℕ → List ℕ
span_asked Units blocks order torn at = span_of order (get_or blocks at 0) (get_or blocks (at + 1) 0)
span_asked Tears blocks order torn at = span_of torn (get_or blocks (at + 2) 0) (get_or blocks (at + 3) 0)

unfoldable pub part_of : Asked → List ℕ → List ℕ → List ℕ → ℕ → List ℕ
part_of asked blocks order torn place =
    cond (leb (4 * place + 4) (length blocks)) (span_asked asked blocks order torn (4 * place)) []

-- ---- "not a copy": where the part lies. A lent row lies in a piece of memory from a byte of it on, and a number has two bytes

-- where the n numbers of a row from `first` on lie, or the front of the order row where they run beyond it
abbrev pub span_lies : Bor (List ℕ) → Bor (List ℕ) → ℕ → ℕ → ℕ × ℕ
span_lies order row first n = cond (leb (first + n) (length row.now)) (row.ref_ptr.0, row.ref_ptr.1 + 2 * first) order.ref_ptr

abbrev pub asked_lies : Asked → List ℕ → Bor (List ℕ) → Bor (List ℕ) → ℕ → ℕ × ℕ
asked_lies Units blocks order torn at = span_lies order order (get_or blocks at 0) (get_or blocks (at + 1) 0)
asked_lies Tears blocks order torn at = span_lies order torn (get_or blocks (at + 2) 0) (get_or blocks (at + 3) 0)

unfoldable pub part_lies : Asked → List ℕ → Bor (List ℕ) → Bor (List ℕ) → ℕ → ℕ × ℕ
part_lies asked blocks order torn place =
    cond (leb (4 * place + 4) (length blocks)) (asked_lies asked blocks order torn (4 * place)) order.ref_ptr

-- a span of a row, handed back: its numbers, and where they lie
pub record Spanned (order row : Bor (List ℕ)) (first n : ℕ) (r : Bor (List ℕ)) : Type 0 where
  pub numbers : r.now ≡ span_of row.now first n
  pub lies : r.ref_ptr ≡ span_lies order row first n

-- what the screen is handed: the numbers that it asks for, and where they lie
pub record Handed (asked : Asked) (blocks order torn : Bor (List ℕ)) (place : ℕ) (r : Bor (List ℕ)) : Type 0 where
  pub numbers : r.now ≡ part_of asked blocks.now order.now torn.now place
  pub lies : r.ref_ptr ≡ part_lies asked blocks.now order torn place
