-- A flowsheet's units and streams as an image: the one image that reads as them.
use Rattle.std.specs.Prelude.{List, ◌++◌, ℕ, ◌+◌, ◌*◌, length}
use Rattle.words.specs.Words.{bytes_of, flat}
use Rattle.flowsheet.specs.declared.Stream.{Stream}

-- "edition (1), unit count U, stream count S, offset of the unit table, offset of the stream table, total length, then four zero bytes"
unfoldable pub header_bytes : ℕ → ℕ → List ℕ
header_bytes u s =
    bytes_of 2 1
    ++ (bytes_of 2 u
    ++ (bytes_of 2 s
    ++ (bytes_of 2 16 ++ (bytes_of 2 (16 + 2 * u) ++ (bytes_of 2 (16 + 2 * u + 8 * s) ++ bytes_of 4 0)))))

-- "A unit record is its number"
unfoldable pub unit_bytes : ℕ → List ℕ
unit_bytes n = bytes_of 2 n

-- "A stream record is number, source, receiver, weight"
unfoldable pub stream_bytes : Stream → List ℕ
stream_bytes s = bytes_of 2 s.number ++ (bytes_of 2 s.source ++ (bytes_of 2 s.receiver ++ bytes_of 2 s.weight))

unfoldable pub image_of : List ℕ → List Stream → List ℕ
image_of us ss = header_bytes (length us) (length ss) ++ (flat unit_bytes us ++ flat stream_bytes ss)
