-- A flowsheet as a value: the units and the streams that it holds, and what a stream may be.
use Rattle.std.specs.Prelude.{Bool, true, cond, ◌&&◌, List, ℕ, eqb, ltb, leb, Option, is_some}
use Rattle.std.specs.List.{position}
use Rattle.std.specs.Option.{option_map, option_and_then}
use Rattle.flowsheet.specs.declared.Flowsheet.{Flowsheet}
use Rattle.flowsheet.specs.declared.Stream.{Stream}

-- what stands in a place beyond the streams
abbrev pub no_stream : Stream
no_stream = record { number = 0; source = 0; receiver = 0; weight = 0 }

-- a flowsheet of these units and these streams
unfoldable pub sheet_of : List ℕ → List Stream → Flowsheet
sheet_of us ss = record { units = us; streams = ss }

-- the first place at which n stands in the list
unfoldable pub place_of : List ℕ → ℕ → Option ℕ
place_of us n = position (λ (u : ℕ). eqb u n) us

-- the places of a stream's source and receiver, where both are units
unfoldable pub ends_of : List ℕ → Stream → Option (ℕ × ℕ)
ends_of us s =
    option_and_then (λ (i : ℕ). option_map (λ (j : ℕ). (i, j)) (place_of us s.receiver)) (place_of us s.source)

-- "Source and receiver are unit numbers of the table, or 0 for outside"
unfoldable pub known_end : List ℕ → ℕ → Bool
known_end us e = cond (eqb e 0) true (is_some (place_of us e))

-- "1 to 9,999, strictly rising": n is in range and above the number before it
abbrev pub in_turn : ℕ → ℕ → Bool
in_turn n last = leb 1 n && (leb n 9999 && ltb last n)

-- 0, or the number k where n is out of range or does not rise above the one before it
unfoldable pub number_fault : ℕ → ℕ → ℕ → ℕ
number_fault n last k = cond (in_turn n last) 0 k

-- 10, "weight out of range"
unfoldable pub weight_fault : ℕ → ℕ
weight_fault w = cond (leb 1 w && leb w 1000) 0 10

-- 8, "an end that is neither 0 nor a known unit"; 9, "both ends 0"; then 10; 0 where none is given
unfoldable pub stream_fault : List ℕ → Stream → ℕ
stream_fault us s =
    cond (known_end us s.source)
    (cond (known_end us s.receiver)
    (cond (eqb s.source 0 && eqb s.receiver 0) 9 (weight_fault s.weight))
    8)
    8
