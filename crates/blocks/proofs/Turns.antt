-- The loops, turn by turn: a round over the rows of a table, a column, the order. Each turn takes the definition one place further.
-- Assumes nothing.
use mathlib.Core.Path.{◌≡◌, refl, sym, ap, ◌∙◌}
use mathlib.Core.List.{List, [], ◌∷◌, ◌++◌, append-nil, append_assoc}
use mathlib.Core.Bool.{Bool, true, false}
use Prim.Native.Nat.{ℕ, zero, suc, ◌+◌, ◌-◌, ◌^◌, ◌<◌, ◌≤◌}
use native.Mathlib.Omega.{arith}
use native.Mathlib.Numerals.{add-one}
use borrow.Author.Count.{below_more}
use borrow.Author.Tests.{eqb-true, lt-ltb, le-ltb}
use lib.Bits.{bit_or}
use lib.ListN.{length, get_or, set, length-append, length-set}
use lib.Seq.{get_or-set_same, get_or-set_other, ext_get_or}
use Rattle.std.specs.Prelude.{◌==◌}
use Rattle.std.specs.Int.Bits.{or_zero_r}
use Rattle.sets.specs.Sets.{bit}
use Rattle.blocks.specs.Reach.{joined, round_of}
use Rattle.blocks.specs.Blocks.{column_of, block_of}
use Rattle.blocks.specs.Order.{pick, lowest_free, order_from, order_of}
use Rattle.blocks.proofs.Bits.{bit_off}
use Rattle.blocks.proofs.Rounds.{row_round, length_round}

-- the rows below i are those after round k, and the others those before it
pub record Turned (k : ℕ) (rows next : List ℕ) (i : ℕ) : Type 0 where
  pub size : length next ≡ length rows
  pub done : (j : ℕ) → j < i → get_or next j 0 ≡ get_or (round_of k rows) j 0
  pub left : (j : ℕ) → i ≤ j → get_or next j 0 ≡ get_or rows j 0

pub turned_none : (k : ℕ) (rows : List ℕ) → Turned k rows rows 0
turned_none k rows = record { size = refl; done = λ j h. absurd (omega arith); left = λ j h. refl }

module _ (k : ℕ) (rows next : List ℕ) (i : ℕ) (h : i < length rows) (s : Turned k rows next i) where
  turned_set : (v : ℕ) → v ≡ get_or (round_of k rows) i 0 → Turned k rows (set next i v) (i + 1)
  turned_set v e =
      record {
        size = length-set next i v ∙ s.size;
        done =
            below_more (λ (j : ℕ). get_or (set next i v) j 0 ≡ get_or (round_of k rows) j 0) i
            (λ j l. get_or-set_other next i j v 0 (λ (q : j ≡ i). omega arith) ∙ s.done j l)
            (get_or-set_same next i v 0 (omega (arith, s.size)) ∙ e);
        left = λ j l. get_or-set_other next i j v 0 (λ (q : j ≡ i). omega arith) ∙ s.left j (omega arith);
      }

  -- the row at hand is still that before the round
  turned_row : get_or next i 0 ≡ get_or rows i 0
  turned_row = s.left i (omega arith)

  turned_by : (b : ℕ) → bit k (get_or next i 0) ≡ b → get_or (round_of k rows) i 0 ≡ joined b (get_or next i 0) (get_or rows k 0)
  turned_by b e =
      row_round k rows i
      ∙ ap (λ (row : ℕ). joined (bit k row) row (get_or rows k 0)) (sym turned_row)
      ∙ ap (λ (x : ℕ). joined x (get_or next i 0) (get_or rows k 0)) e

  pub turned_joins : (onward : ℕ) → onward ≡ get_or rows k 0 → (bit k (get_or next i 0) == 1) ≡ true
      → Turned k rows (set next i (bit_or (get_or next i 0) onward)) (i + 1)
  turned_joins onward e f =
      turned_set (bit_or (get_or next i 0) onward)
      (ap (bit_or (get_or next i 0)) e ∙ sym (turned_by 1 (eqb-true (bit k (get_or next i 0)) 1 f)))

  pub turned_stays : (bit k (get_or next i 0) == 1) ≡ false → Turned k rows (set next i (get_or next i 0)) (i + 1)
  turned_stays f = turned_set (get_or next i 0) (sym (turned_by 0 (bit_off k (get_or next i 0) f)))

pub turned_all : (k : ℕ) (rows next : List ℕ) → Turned k rows next (length rows) → next ≡ round_of k rows
turned_all k rows next s =
    ext_get_or 0 next (round_of k rows) (s.size ∙ sym (length_round k rows)) (λ i h. s.done i (omega (arith, s.size)))

-- where k reaches nothing, nothing is joined
pub round_stays : (k : ℕ) (rows : List ℕ) → get_or rows k 0 ≡ 0 → rows ≡ round_of k rows
round_stays k rows none =
    turned_all k rows rows
    (record {
      size = refl;
      done = λ j h. sym (row_round k rows j ∙ alone (bit k (get_or rows j 0)) (get_or rows j 0) (get_or rows k 0) none);
      left = λ j h. refl;
    })
  where
    alone : (b m more : ℕ) → more ≡ 0 → joined b m more ≡ m
    alone zero m more e = refl
    alone (suc b) m more e = rw e (or_zero_r m)

-- ---- a column, place by place

pub column_joins : (t : List ℕ) (k i : ℕ) → (bit i (get_or t k 0) == 1) ≡ true → bit_or (column_of t k i) (2 ^ k) ≡ column_of t (k + 1) i
unfolding column_of
column_joins t k i f = let b = eqb-true (bit i (get_or t k 0)) 1 f in rw (add-one k, b) refl

pub column_stays : (t : List ℕ) (k i : ℕ) → (bit i (get_or t k 0) == 1) ≡ false → column_of t k i ≡ column_of t (k + 1) i
unfolding column_of
column_stays t k i f = let b = bit_off i (get_or t k 0) f in rw (add-one k, b) refl

-- ---- the order, block by block

-- so many blocks are listed, and the rest of the order is that of what isn't placed
pub record Listing (t : List ℕ) (n : ℕ) (list : List ℕ) (count placed : ℕ) : Type 0 where
  pub many : length list ≡ count
  pub rest : order_of t n ≡ list ++ order_from t n (n - count) placed

module _ (t : List ℕ) (n : ℕ) where
  pub listing_none : Listing t n [] 0 0
  unfolding order_of
  listing_none = record { many = refl; rest = ap (λ (f : ℕ). order_from t n f 0) (omega arith) }

  pub listing_all : {list : List ℕ} {count placed : ℕ} → Listing t n list count placed → n ≤ count → list ≡ order_of t n
  unfolding order_from
  listing_all {list} {count} {placed} s h =
      let e : n - count ≡ 0 = omega arith in
      sym (s.rest ∙ ap (λ (f : ℕ). list ++ order_from t n f placed) e ∙ append-nil list)

  module _ {list : List ℕ} {count placed : ℕ} (s : Listing t n list count placed) (h : count < n) where
    turn : order_of t n ≡ list ++ order_from t n (suc (n - (count + 1))) placed
    turn = s.rest ∙ ap (λ (f : ℕ). list ++ order_from t n f placed) (omega arith)

    pub listing_stop : lowest_free t n placed n ≡ n → list ≡ order_of t n
    unfolding order_from
    listing_stop e =
        sym
        (turn
        ∙ ap (λ (b : Bool). list ++ pick b (x ∷ order_from t n (n - (count + 1)) (bit_or placed (block_of t n x))) []) (le-ltb x n (omega arith))
        ∙ append-nil list)
      where
        x : ℕ
        x = lowest_free t n placed n

    pub listing_more : (i : ℕ) → i ≡ lowest_free t n placed n → i < n
        → Listing t n (list ++ (i ∷ [])) (count + 1) (bit_or placed (block_of t n i))
    unfolding order_from
    listing_more i e l =
        rw e
        (record {
          many = omega (arith, length-append list (x ∷ []), s.many);
          rest =
              turn
              ∙ ap (λ (b : Bool). list ++ pick b (x ∷ order_from t n (n - (count + 1)) (bit_or placed (block_of t n x))) []) (lt-ltb x n (omega (arith, e)))
              ∙ sym (append_assoc list (x ∷ []) (order_from t n (n - (count + 1)) (bit_or placed (block_of t n x))));
        })
      where
        x : ℕ
        x = lowest_free t n placed n
