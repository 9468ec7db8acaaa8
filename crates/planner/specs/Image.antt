-- The plan image. "Header, 16 bytes: edition (1), U, block count, torn count, offsets of the block, order and torn tables, total length. The
-- tables follow in that order without gaps." All of it is 16-bit numbers, so the image is the bytes of a list of numbers.
use Rattle.std.specs.Prelude.{List, [], ◌∷◌, ◌++◌, ℕ, ◌+◌, ◌*◌, ◌/◌, length, drop}
use Rattle.words.specs.Words.{bytes_of, flat}
use Rattle.planner.specs.declared.Plan.{Plan}

-- how many bytes the image of a plan with so many numbers in its tables has
abbrev pub image_length : ℕ → ℕ → ℕ → ℕ
image_length b u t = 16 + 2 * b + 2 * u + 2 * t

-- the header's numbers: b numbers in the block table, four to a block, u units and t torn streams
unfoldable pub plan_header : ℕ → ℕ → ℕ → List ℕ
plan_header b u t =
    1 ∷ u ∷ (b / 4) ∷ t ∷ 16 ∷ (16 + 2 * b) ∷ (16 + 2 * b + 2 * u) ∷ image_length b u t ∷ []

unfoldable pub plan_numbers : List ℕ → List ℕ → List ℕ → List ℕ
plan_numbers blocks order torn = plan_header (length blocks) (length order) (length torn) ++ (blocks ++ (order ++ torn))

unfoldable pub plan_bytes : Plan → List ℕ
plan_bytes p = flat (bytes_of 2) (plan_numbers p.blocks p.order p.torn)

-- a lent buffer with these bytes at its front: "Bytes of the lent buffer beyond it stay"
unfoldable pub laid_over : List ℕ → List ℕ → List ℕ
laid_over bytes buffer = bytes ++ drop (length bytes) buffer

-- how many bytes the image of this plan has
abbrev pub plan_length : Plan → ℕ
plan_length p = image_length (length p.blocks) (length p.order) (length p.torn)
