-- What an edit is refused with for the flowsheet's sake, in the table's order.
use Rattle.std.specs.Prelude.{Bool, cond, ◌&&◌, ◌||◌, List, ℕ, eqb, ltb, leb, length, is_some}
use Rattle.std.specs.List.{list_any}
use Rattle.flowsheet.specs.Image.{first}
use Rattle.flowsheet.specs.Sheet.{place_of, weight_fault, stream_fault}
use Rattle.flowsheet.specs.declared.Flowsheet.{Flowsheet}
use Rattle.flowsheet.specs.declared.Stream.{Stream}
use Rattle.session.specs.Edited.{stream_place}
use Rattle.session.specs.declared.Edit.{Edit}
use Rattle.session.specs.declared.Edit.TheVariants.{AddUnit, RemoveUnit, AddStream, RemoveStream, SetWeight}

-- 20, "number not 1 to 9,999"; 21, "number already held"; 22, "64 units held (add unit) or 256 streams (add stream)"; 0 where none is given
unfoldable pub add_fault : ℕ → Bool → ℕ → ℕ → ℕ
add_fault n held count most = cond (leb 1 n && leb n 9999) (cond held 21 (cond (ltb count most) 0 22)) 20

-- a stream leaves or enters the unit n
abbrev pub ends_at : ℕ → Stream → Bool
ends_at n s = eqb s.source n || eqb s.receiver n

-- some stream does
unfoldable pub touched : List Stream → ℕ → Bool
touched ss n = list_any (ends_at n) ss

-- Add stream: "20, 21, 22, 8, 9, 10"; others "in number order", of which 23 is "no such unit or stream" and 24 "unit still has a stream"; but
-- weight: "23, 10". 0 where none is given.
unfoldable pub fault_of : Edit → Flowsheet → ℕ
fault_of (AddUnit n) f = add_fault n (is_some (place_of f.units n)) (length f.units) 64
fault_of (RemoveUnit n) f = cond (is_some (place_of f.units n)) (cond (touched f.streams n) 24 0) 23
fault_of (AddStream s) f =
    first (add_fault s.number (is_some (stream_place f.streams s.number)) (length f.streams) 256) (stream_fault f.units s)
fault_of (RemoveStream n) f = cond (is_some (stream_place f.streams n)) 0 23
fault_of (SetWeight n w) f = cond (is_some (stream_place f.streams n)) (weight_fault w) 23
