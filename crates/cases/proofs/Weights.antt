-- A row of weights that is filled from the front, and the bound on one of its weights. Assumes nothing.
use mathlib.Core.Path.{◌≡◌, ap, ◌∙◌}
use mathlib.Core.List.{List, append-nil}
use Prim.Native.Nat.{ℕ, ◌+◌, ◌-◌, ◌≤◌, ◌<◌}
use native.Mathlib.Omega.{arith}
use lib.ListN.{length, get_or, set}
use Rattle.rows.specs.Rows.{padded, table}
use Rattle.rows.proofs.Rows.{length-table, length-padded, padded_more, table_more}
use Rattle.tearing.specs.Row.{total}
use Rattle.tearing.proofs.Total.{total-set}

-- what stands at one place is at most all together
pub weight_small : (w : List ℕ) (i : ℕ) → i < length w → get_or w i 0 ≤ total w
weight_small w i h = omega (arith, total-set w i 0 h)

-- one weight more
pub one_more : (f : ℕ → ℕ) (n i : ℕ) (row : List ℕ) → i < n → row ≡ padded n 0 (table f i)
    → set row i (f i) ≡ padded n 0 (table f (i + 1))
one_more f n i row h is =
    let e : set (padded n 0 (table f i)) (length (table f i)) (f i) ≡ padded n 0 (table f (i + 1)) =
    rw (table_more f i) (padded_more n 0 (table f i) (f i) (rw length-table h)) in
    rw is (rw length-table at e)

-- all of them
pub filled : (f : ℕ → ℕ) (n : ℕ) → padded n 0 (table f n) ≡ table f n
unfolding padded
filled f n = let e : n - n ≡ 0 = omega arith in rw (length-table f n, e) (append-nil (table f n))

-- and what it weighs more
pub total_more : (f : ℕ → ℕ) (n i : ℕ) (row : List ℕ) (x : ℕ) → i < n → row ≡ padded n 0 (table f i) → total (set row i x) ≤ total row + x
total_more f n i row x h is =
    let e : length row ≡ n = ap length is ∙ length-padded n 0 (table f i) (rw length-table (omega arith)) in
    let inside : i < length row = omega (arith, e) in
    omega (arith, total-set row i x inside)
