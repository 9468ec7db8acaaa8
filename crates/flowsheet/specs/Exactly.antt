-- The table of refusals, number by number: when an image is refused with which of 1 to 10, and when it is accepted. `Refusal` and
-- `Accepted` say so with no order of reading in them but the table's own; that reading answers just this is in proofs/Exact.antt.
use Rattle.std.specs.Prelude.{List, ◌⊎◌, ◌≡◌, ℕ, suc, ◌+◌, ◌*◌, ◌≤◌, ◌<◌, length, get_or}
use Rattle.words.specs.Words.{number_at}
use Rattle.flowsheet.specs.Image.{edition_of, unit_count, stream_count, unit_at, stream_at, unit_list}
use Rattle.flowsheet.specs.declared.Stream.{Stream}

-- "then four zero bytes"
abbrev pub SpareZero : List ℕ → Type 0
SpareZero l = (i : ℕ) → 12 ≤ i → i < 16 → get_or l i 0 ≡ 0

-- "The unit table starts at 16, the stream table follows at once, and the total is 16 + 2U + 8S. The lent length equals the total."
pub record LaidOut (l : List ℕ) : Type 0 where
  pub units_at : number_at 2 l 6 ≡ 16
  pub streams_at : number_at 2 l 8 ≡ 16 + 2 * unit_count l
  pub total : number_at 2 l 10 ≡ 16 + 2 * unit_count l + 8 * stream_count l
  pub lent : length l ≡ 16 + 2 * unit_count l + 8 * stream_count l

-- a header that nothing is wrong with
pub record GoodHeader (l : List ℕ) : Type 0 where
  pub long : 16 ≤ length l
  pub edition : edition_of l ≡ 1
  pub spare : SpareZero l
  pub units : unit_count l ≤ 64
  pub streams : stream_count l ≤ 256
  pub layout : LaidOut l

-- 1 to 5
pub data HeaderRefusal (l : List ℕ) : ℕ → Type 0 where
  short : length l < 16 → HeaderRefusal l 1
  edition : 16 ≤ length l → (edition_of l ≡ 1 → ⊥) → HeaderRefusal l 2
  spare : 16 ≤ length l → edition_of l ≡ 1 → (SpareZero l → ⊥) → HeaderRefusal l 3
  counts : 16 ≤ length l → edition_of l ≡ 1 → SpareZero l → (64 < unit_count l) ⊎ (256 < stream_count l) → HeaderRefusal l 4
  layout : 16 ≤ length l → edition_of l ≡ 1 → SpareZero l → unit_count l ≤ 64 → stream_count l ≤ 256 → (LaidOut l → ⊥) → HeaderRefusal l 5

-- the number in place i of a table: "1 to 9,999, strictly rising"
pub record Numbered (f : ℕ → ℕ) (i : ℕ) : Type 0 where
  pub low : 1 ≤ f i
  pub high : f i ≤ 9999
  pub rising : (j : ℕ) → i ≡ suc j → f j < f i

-- "unit numbers of the table, or 0 for outside"
abbrev pub Known : List ℕ → ℕ → Type 0
Known us e = (e ≡ 0) ⊎ ((i : ℕ) × (i < length us) × (get_or us i 0 ≡ e))

-- "Source and receiver are unit numbers of the table, or 0 for outside; not both 0. Weight is 1 to 1,000."
pub record Sound (us : List ℕ) (s : Stream) : Type 0 where
  pub source : Known us s.source
  pub receiver : Known us s.receiver
  pub inside : s.source ≡ 0 → s.receiver ≡ 0 → ⊥
  pub light : 1 ≤ s.weight
  pub heavy : s.weight ≤ 1000

-- 8, 9 and 10
pub data Fault (us : List ℕ) (s : Stream) : ℕ → Type 0 where
  end : (Known us s.source → ⊥) ⊎ (Known us s.receiver → ⊥) → Fault us s 8
  outside : s.source ≡ 0 → s.receiver ≡ 0 → Fault us s 9
  weight : Known us s.source → Known us s.receiver → (s.source ≡ 0 → s.receiver ≡ 0 → ⊥)
      → (s.weight < 1) ⊎ (1000 < s.weight) → Fault us s 10

abbrev pub stream_in : List ℕ → ℕ → Stream
stream_in l i = stream_at l (unit_count l) i

abbrev pub stream_number_in : List ℕ → ℕ → ℕ
stream_number_in l i = (stream_in l i).number

-- a stream record that nothing is wrong with
pub record GoodStream (l : List ℕ) (i : ℕ) : Type 0 where
  pub numbered : Numbered (stream_number_in l) i
  pub sound : Sound (unit_list l) (stream_in l i)

-- 7 to 10, of the stream record in place i
pub data StreamRefusal (l : List ℕ) (i : ℕ) : ℕ → Type 0 where
  number : (Numbered (stream_number_in l) i → ⊥) → StreamRefusal l i 7
  fault : {n : ℕ} → Numbered (stream_number_in l) i → Fault (unit_list l) (stream_in l i) n → StreamRefusal l i n

-- "Image: 1 to 5 in order, units in table order, then streams in table order, each tried for 7, 8, 9, 10; reading stops at the first
-- record that is refused"
pub data Refusal (l : List ℕ) : ℕ → Type 0 where
  header : {n : ℕ} → HeaderRefusal l n → Refusal l n
  unit : GoodHeader l → (i : ℕ) → i < unit_count l → (Numbered (unit_at l) i → ⊥) → Refusal l 6
  stream : {n : ℕ} → GoodHeader l → ((j : ℕ) → j < unit_count l → Numbered (unit_at l) j)
      → (i : ℕ) → i < stream_count l → ((j : ℕ) → j < i → GoodStream l j) → StreamRefusal l i n → Refusal l n

-- an image that nothing is wrong with
pub record Accepted (l : List ℕ) : Type 0 where
  pub header : GoodHeader l
  pub units : (i : ℕ) → i < unit_count l → Numbered (unit_at l) i
  pub streams : (i : ℕ) → i < stream_count l → GoodStream l i
