-- The tables over sets of places. The table of least weights lies in the working memory, four bytes a set; the two tables of sums, over the
-- sets of the low six places and of the high six, twelve numbers a set.
use Rattle.std.specs.Prelude.{◌≡◌, List, ℕ, ◌+◌, ◌*◌, ◌-◌, ◌/◌, ◌%◌, ◌^◌, ◌<◌, ◌≤◌, length, get_or}
use Rattle.sets.specs.Sets.{bit, members}
use Rattle.tearing.specs.Order.{upto}
use Rattle.tearing.specs.Weight.{into, all, Least}
use Rattle.words.specs.Words.{number_at}

-- the table's entry of the set m
abbrev pub entry : List ℕ → ℕ → ℕ
entry l m = number_at 4 l (4 * m)

-- the entries of the sets below m are the least weights of their members
abbrev pub Filled : (ℕ → ℕ → ℕ) → ℕ → List ℕ → ℕ → Type 0
Filled W n l m = (j : ℕ) → j < m → Least W (members n j) (entry l j)

-- the sums over the first size numbers of a table of sums, whose sets begin at the place from: what the streams into a place from a set weigh
abbrev pub Summed : (ℕ → ℕ → ℕ) → ℕ → List ℕ → ℕ → Type 0
Summed W from sums size = (k : ℕ) → k < size → get_or sums k 0 ≡ into W (k % 12) (members 12 (2 ^ from * (k / 12)))

-- the first size sums, and after them the first count of the same sets with one place more
pub record Doubled (w : List ℕ) (place size count : ℕ) (old new : List ℕ) : Type 0 where
  pub long : length new ≡ length old
  pub kept : (k : ℕ) → k < size → get_or new k 0 ≡ get_or old k 0
  pub added : (k : ℕ) → k < count → get_or new (size + k) 0 ≡ get_or old k 0 + get_or w (place * 12 + k % 12) 0

-- what the streams into u from the set m weigh, by the two tables
abbrev pub flow : List ℕ → List ℕ → ℕ → ℕ → ℕ
flow low high m u = get_or low (m % 64 * 12 + u) 0 + get_or high (m / 64 * 12 + u) 0

-- what the streams from place i to place j weigh, by the two tables
abbrev pub between : List ℕ → List ℕ → ℕ → ℕ → ℕ
between low high i j = flow low high (2 ^ i) j

-- the tables hold the sums of the weights W, which fit a number of 32 bits together
pub record Sums (W : ℕ → ℕ → ℕ) (n : ℕ) (low high : List ℕ) : Type 0 where
  pub flows : (m u : ℕ) → m < 2 ^ n → u < n → flow low high m u ≡ into W u (members n m)
  pub small : all W (upto n) (upto n) < 2 ^ 32

-- what an order of the set m that begins with u tears at least
abbrev pub via : List ℕ → List ℕ → List ℕ → ℕ → ℕ → ℕ
via low high l m u = flow low high m u + entry l (m - 2 ^ u)

-- a table step at the set m stays within the working memory and within 32 bits
pub record Room (f : ℕ → ℕ) (n m : ℕ) (l : List ℕ) : Type 0 where
  pub some : 0 < m
  pub set : m < 2 ^ n
  pub memory : 4 * 2 ^ n ≤ length l
  pub fits : (u : ℕ) → u < n → bit u m ≡ 1 → f u < 2 ^ 32

-- x is the least of f over the members of m
pub record Lowest (f : ℕ → ℕ) (n m x : ℕ) : Type 0 where
  pub low : (u : ℕ) → u < n → bit u m ≡ 1 → x ≤ f u
  pub at : (u : ℕ) × (u < n) × (bit u m ≡ 1) × (x ≡ f u)

-- u is the first member of m at which f is least
pub record First (f : ℕ → ℕ) (n m u : ℕ) : Type 0 where
  pub below : u < n
  pub member : bit u m ≡ 1
  pub least : (v : ℕ) → v < n → bit v m ≡ 1 → f u ≤ f v
  pub first : (v : ℕ) → v < u → bit v m ≡ 1 → f u < f v
