-- A flowsheet that could have been read, which is what the crates above count on, and the test of it.
use Rattle.std.specs.Prelude.{Bool, true, ◌&&◌, List, [], ◌∷◌, ℕ, ◌≤◌, ◌<◌, eqb, length, get_or}
use Rattle.flowsheet.specs.Exactly.{Numbered, Sound}
use Rattle.flowsheet.specs.Sheet.{no_stream, in_turn, stream_fault}
use Rattle.flowsheet.specs.declared.Flowsheet.{Flowsheet}
use Rattle.flowsheet.specs.declared.Stream.{Stream}

-- "U is at most 64, S at most 256"; unit and stream numbers are 1 to 9,999, strictly rising; each stream's ends are known and its weight is in range
pub record Good (us : List ℕ) (ss : List Stream) : Type 0 where
  pub few_units : length us ≤ 64
  pub few_streams : length ss ≤ 256
  pub units : (i : ℕ) → i < length us → Numbered (λ (j : ℕ). get_or us j 0) i
  pub streams : (i : ℕ) → i < length ss → Numbered (λ (j : ℕ). (get_or ss j no_stream).number) i
  pub sound : (i : ℕ) → i < length ss → Sound us (get_or ss i no_stream)

-- a flowsheet by value that could have been read
abbrev pub GoodSheet : Flowsheet → Type 0
GoodSheet f = Good f.units f.streams

-- ---- the test of it

-- the records of a table from one on, `last` the number before it: each number is in turn after the one before, and nothing else is wrong
abbrev pub rows_good : {A : Type 0} → (A → ℕ) → (A → ℕ) → ℕ → List A → Bool
rows_good number fault last [] = true
rows_good number fault last (x ∷ xs) =
    in_turn (number x) last && (eqb (fault x) 0 && rows_good number fault (number x) xs)

-- the unit table, then the stream table
unfoldable pub is_good : List ℕ → List Stream → Bool
is_good us ss =
    rows_good (λ (u : ℕ). u) (λ (u : ℕ). 0) 0 us && rows_good (λ (s : Stream). s.number) (stream_fault us) 0 ss
