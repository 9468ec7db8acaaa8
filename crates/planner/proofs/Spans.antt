-- The ways out of the screen's part, over plain rows: a span that lies in its row, one that runs beyond it, no such record, and a record's
-- span. Each test says which case of the definitions holds. Assumes nothing.
use mathlib.Core.List.{List, []}
use mathlib.Core.Path.{◌≡◌}
use Prim.Native.Nat.{ℕ, ◌+◌, ◌*◌, ◌-◌, ◌≤◌, ◌<◌}
use native.Mathlib.Omega.{arith}
use borrow.Author.Tests.{le-leb, lt-leb}
use lib.ListN.{length, get_or, take, drop}
use denote.Ref.{Bor}
use Rattle.planner.specs.Part.{part_of, part_lies, Spanned, Handed}
use Rattle.planner.specs.declared.Asked.{Asked}
use Rattle.planner.specs.declared.Asked.TheVariants.{Units, Tears}

module _ (order row r : Bor (List ℕ)) (first n start end : ℕ) (starts : start ≡ first) (ends : end ≡ first + n) where
  pub in_row : end ≤ length row.now → r.now ≡ take (end - start) (drop start row.now) → r.ref_ptr ≡ (row.ref_ptr.0, start * 2 + row.ref_ptr.1)
      → Spanned order row first n r
  in_row h e p =
      let k : n ≡ end - start = omega arith in
      let o : row.ref_ptr.1 + 2 * first ≡ start * 2 + row.ref_ptr.1 = omega arith in
      let l : first + n ≤ length row.now = omega arith in
      record { numbers = rw (le-leb _ _ l, ← starts, k) e; lies = rw (le-leb _ _ l, o) p }

  pub beyond_row : length row.now < end → r.now ≡ [] → r.ref_ptr ≡ order.ref_ptr → Spanned order row first n r
  beyond_row h e p = let l : length row.now < first + n = omega arith in record { numbers = rw (lt-leb _ _ l) e; lies = rw (lt-leb _ _ l) p }

module _ (blocks order torn r : Bor (List ℕ)) (place : ℕ) where
  pub no_record : (asked : Asked) → length blocks.now < 4 * place + 4 → r.now ≡ [] → r.ref_ptr ≡ order.ref_ptr → Handed asked blocks order torn place r
  unfolding part_of part_lies
  no_record asked h e p = record { numbers = rw (lt-leb _ _ h) e; lies = rw (lt-leb _ _ h) p }

  module _ (whole : 4 * place + 4 ≤ length blocks.now) where
    pub units : Spanned order order (get_or blocks.now (4 * place) 0) (get_or blocks.now (4 * place + 1) 0) r → Handed Units blocks order torn place r
    unfolding part_of part_lies
    units s = record { numbers = rw (le-leb _ _ whole) s.numbers; lies = rw (le-leb _ _ whole) s.lies }

    pub tears : Spanned order torn (get_or blocks.now (4 * place + 2) 0) (get_or blocks.now (4 * place + 3) 0) r → Handed Tears blocks order torn place r
    unfolding part_of part_lies
    tears s = record { numbers = rw (le-leb _ _ whole) s.numbers; lies = rw (le-leb _ _ whole) s.lies }
