-- Every row of the table holds. What the definitions give for all the rows is computed at once, as one list, and comes out as the list of what is
-- written in them; so it does at each row. Assumes nothing.
use mathlib.Core.List.Memᴰ
use mathlib.Core.List.{List, [], ◌∷◌, map, Memᴰ}
use mathlib.Core.Path.{◌≡◌, refl}
use lib.Ieee.{add, sub, mul, div, neg, lt, le, eq, of_int, of_bits}
use Rattle.rows.specs.Rows.{table}
use Rattle.sets.specs.Sets.{members}
use Rattle.words.specs.Words.{number_at, bytes_of}
use Rattle.flowsheet.specs.Image.{header_number, laid_out, unit_at, unit_number_at, stream_held, stream_number, stream_at, stream_number_at, unit_list, stream_list, answer_of}
use Rattle.flowsheet.specs.Sheet.{place_of, known_end, number_fault, weight_fault, stream_fault}
use Rattle.flowsheet.specs.Written.{header_bytes, unit_bytes, stream_bytes, image_of}
use Rattle.blocks.specs.Blocks.{column_of, members_of}
use Rattle.blocks.specs.Order.{lowest_free, order_from, order_of}
use Rattle.blocks.specs.Reach.{round_of, rounds_of, reach_of}
use Rattle.tearing.specs.Best.{best}
use Rattle.planner.specs.Answer.{plan_number, planned_of, planned_image}
use Rattle.planner.specs.Links.{with_link, links_of}
use Rattle.planner.specs.Plan.{units_in, charged, row_of, ordered_of, is_torn, torn_of, block_plan, reach_in, block_at, block_order, blocks_of, too_large, plan_of}
use Rattle.converge.specs.Value.{factor_of, next_of}
use Rattle.cases.specs.Paper.{answer_to, Row, Holds, rows}

-- where two functions give one list, they give the same at each item
same_at : {A B : Type 0} (f g : A → B) (l : List A) (x : A) → map f l ≡ map g l → Memᴰ x l → f x ≡ g x
same_at f g [] x e m = absurd (Memᴰ.not-nil m)
same_at f g (y ∷ l) x e (Memᴰ.head h) = rw h cc
same_at f g (y ∷ l) x e (Memᴰ.tail m) = same_at f g l x (cc) m

computed : map (λ (r : Row). answer_to r.question) rows ≡ map (λ (r : Row). r.answer) rows
unfolding answer_to image_of header_bytes unit_bytes stream_bytes bytes_of
    planned_image answer_of header_number laid_out number_at unit_number_at unit_at number_fault unit_list table
    stream_number_at stream_number stream_at stream_held stream_fault known_end place_of weight_fault stream_list
    planned_of plan_number too_large plan_of blocks_of reach_in links_of with_link reach_of rounds_of round_of
    block_order order_of order_from lowest_free column_of block_at units_in members_of members
    block_plan ordered_of row_of charged best torn_of is_torn
    factor_of next_of add sub mul div neg lt le eq of_int of_bits
computed = refl

-- the claim: the answer that is written in each row is what the definitions give
pub paper : (r : Row) → Memᴰ r rows → Holds r
paper r m = same_at (λ (q : Row). answer_to q.question) (λ (q : Row). q.answer) rows r computed m
