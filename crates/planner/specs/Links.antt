-- The table of direct links between the units of a flowsheet, by their places in the unit table: bit j of row i is 1 where a stream
-- runs from the unit in place i to the unit in place j. Outside has no place, and so no bit.
use Rattle.std.specs.Prelude.{List, [], ◌∷◌, ℕ, replicate, Option, Some, None}
use Rattle.blocks.specs.Links.{linked}
use Rattle.flowsheet.specs.Sheet.{place_of}
use Rattle.flowsheet.specs.declared.Stream.{Stream}

-- the table t with the link between two places more
abbrev pub link_at : Option ℕ → Option ℕ → List ℕ → List ℕ
link_at (Some i) (Some j) t = linked t i j
link_at (Some i) None t = t
link_at None q t = t

-- the table t with the link of one stream more
unfoldable pub with_link : List ℕ → List ℕ → Stream → List ℕ
with_link us t s = link_at (place_of us s.source) (place_of us s.receiver) t

-- the table t with the links of all the streams more
abbrev pub with_links : List ℕ → List ℕ → List Stream → List ℕ
with_links us t [] = t
with_links us t (s ∷ ss) = with_links us (with_link us t s) ss

unfoldable pub links_of : List ℕ → List Stream → List ℕ
links_of us ss = with_links us (replicate 64 0) ss
