-- A flowsheet's image as the numbers of 16 bits that it is, of any units and streams: also of more than an image may hold. And the rows of units
-- and of streams that the cases are made of.
use Rattle.std.specs.Prelude.{List, [], ◌∷◌, ◌++◌, ℕ, ◌+◌, ◌*◌, ◌%◌, length, replicate}
use Rattle.words.specs.Words.{flat, with_numbers}
use Rattle.flowsheet.specs.declared.Stream.{Stream}

-- "edition (1), unit count U, stream count S, offset of the unit table, offset of the stream table, total length, then four zero bytes"
abbrev pub header_numbers : ℕ → ℕ → List ℕ
header_numbers u s = 1 ∷ u ∷ s ∷ 16 ∷ (16 + 2 * u) ∷ (16 + 2 * u + 8 * s) ∷ 0 ∷ 0 ∷ []

-- "A stream record is number, source, receiver, weight"
abbrev pub stream_numbers : Stream → List ℕ
stream_numbers s = s.number ∷ s.source ∷ s.receiver ∷ s.weight ∷ []

unfoldable pub numbers_of : List ℕ → List Stream → List ℕ
numbers_of us ss = header_numbers (length us) (length ss) ++ us ++ flat stream_numbers ss

-- the bytes of these numbers at the front of a row of 2,202 bytes, and zero beyond them
unfoldable pub lent_of : List ℕ → List ℕ
lent_of numbers = with_numbers (replicate 2202 0) 0 numbers

-- the stream of this number between these ends, with weight 1
abbrev pub stream_between : ℕ → ℕ → ℕ → Stream
stream_between n source receiver = record { number = n; source = source; receiver = receiver; weight = 1 }

-- the streams from place 0 on that lead from unit 1 to outside
abbrev pub outward_stream : ℕ → Stream
outward_stream i = stream_between (i + 1) 1 0

-- the streams from place 0 on of a ring of n units: each leads from the unit of its number to the next, and the last to unit 1
abbrev pub ring_stream : ℕ → ℕ → Stream
ring_stream n i = stream_between (i + 1) (i + 1) ((i + 1) % n + 1)
