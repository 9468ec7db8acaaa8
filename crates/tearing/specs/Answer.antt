-- What the crate's one function answers and what it leaves in the memory it was lent.
use Rattle.std.specs.Prelude.{◌≡◌, List, ℕ, ◌*◌, ◌^◌}
use Rattle.tearing.specs.Best.{best}
use Rattle.tearing.specs.Row.{weights}
use Rattle.words.specs.Words.{cleared}

-- "Working memory for tearing is lent by the caller": of it the table takes four bytes for each set of the n places, and these are zero
-- afterwards; the rest stay
pub record Ordered (w : List ℕ) (n : ℕ) (before after : List ℕ) (r : List ℕ) : Type 0 where
  pub order : r ≡ best (weights w) n
  pub work : after ≡ cleared before (4 * 2 ^ n)
