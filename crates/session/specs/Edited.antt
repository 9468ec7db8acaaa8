-- What an edit makes of a flowsheet: "add a unit; remove a unit; add a stream; remove a stream; set a weight. .. A freed place serves the next
-- addition." Units and streams stand in the order of their numbers, so what is added goes to its place among them.
use Rattle.std.specs.Prelude.{List, ℕ, eqb, ltb, get_or, set, Option, Some, None}
use Rattle.std.specs.List.{position, position_or_len, insert, remove}
use Rattle.flowsheet.specs.Sheet.{no_stream, place_of}
use Rattle.flowsheet.specs.declared.Flowsheet.{Flowsheet}
use Rattle.flowsheet.specs.declared.Stream.{Stream}
use Rattle.session.specs.declared.Edit.{Edit}
use Rattle.session.specs.declared.Edit.TheVariants.{AddUnit, RemoveUnit, AddStream, RemoveStream, SetWeight}

-- the place of the stream of that number
unfoldable pub stream_place : List Stream → ℕ → Option ℕ
stream_place ss n = position (λ (s : Stream). eqb s.number n) ss

-- where a record of that number goes: before the first whose number is above it, or behind them all
abbrev pub turn_of : {A : Type 0} → (A → ℕ) → List A → ℕ → ℕ
turn_of number l n = position_or_len (λ x. ltb n (number x)) l

unfoldable pub unit_turn : List ℕ → ℕ → ℕ
unit_turn us n = turn_of (λ (u : ℕ). u) us n

unfoldable pub stream_turn : List Stream → ℕ → ℕ
stream_turn ss n = turn_of (λ (s : Stream). s.number) ss n

-- a list without the item in that place
abbrev pub without : {A : Type 0} → Option ℕ → List A → List A
without None l = l
without (Some p) l = remove l p

-- a stream with another weight
abbrev pub weighing : ℕ → Stream → Stream
weighing w s = record { number = s.number; source = s.source; receiver = s.receiver; weight = w }

-- the streams with another weight for the one in that place
abbrev pub reweighted : ℕ → Option ℕ → List Stream → List Stream
reweighted w None ss = ss
reweighted w (Some p) ss = set ss p (weighing w (get_or ss p no_stream))

abbrev pub with_units : Flowsheet → List ℕ → Flowsheet
with_units f us = record { units = us; streams = f.streams }

abbrev pub with_streams : Flowsheet → List Stream → Flowsheet
with_streams f ss = record { units = f.units; streams = ss }

-- the flowsheet after an edit that is accepted
unfoldable pub edited : Edit → Flowsheet → Flowsheet
edited (AddUnit n) f = with_units f (insert f.units (unit_turn f.units n) n)
edited (RemoveUnit n) f = with_units f (without (place_of f.units n) f.units)
edited (AddStream s) f = with_streams f (insert f.streams (stream_turn f.streams s.number) s)
edited (RemoveStream n) f = with_streams f (without (stream_place f.streams n) f.streams)
edited (SetWeight n w) f = with_streams f (reweighted w (stream_place f.streams n) f.streams)
