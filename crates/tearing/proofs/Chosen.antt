-- What the planner may say of the order it is given, for any weights: `best W n` is the order that rule 3 chooses, no other is, and it goes by
-- the weights between the places below n alone. Assumes nothing.
use mathlib.Core.Path.{◌≡◌, sym, ◌∙◌}
use mathlib.Core.Logic.{inl, inr, ⊎_elim}
use mathlib.Core.List.{List}
use Prim.Native.Nat.{ℕ, ◌<◌, ◌≤◌}
use native.Mathlib.Omega.{arith}
use native.Mathlib.Nat.{eq-or-lt_of_le}
use lib.ListN.{length, get_or}
use Rattle.tearing.specs.Order.{Perm, upto, torn, Lex, Chosen}
use Rattle.tearing.specs.Weight.{weight, Best}
use Rattle.tearing.specs.Best.{best}
use Rattle.tearing.proofs.Lists.{perm_length, length-upto, Each, each_perm, each_at, upto_below, Distinct, distinct_perm, rising_upto, rising_distinct}
use Rattle.tearing.proofs.Torn.{torn-weight, torn_agree}
use Rattle.tearing.proofs.Computed.{best_is, best-only}

module _ (W : ℕ → ℕ → ℕ) (n : ℕ) where
  -- an order of the places tears what the recursion on it says
  pub torn_is : {o : List ℕ} → Perm (upto n) o → torn W (upto n) o ≡ weight W o
  torn_is p = torn-weight W (rising_distinct (upto n) (rising_upto n)) p

  -- the order that rule 3 chooses is the best one
  pub best_of_chosen : {o : List ℕ} → Chosen W n o → Best W (upto n) o
  best_of_chosen {o} c =
      record {
        perm = c.order;
        first = λ p q.
            let a = torn_is c.order in
            let b = torn_is q in
            ⊎_elim
            (λ e. inr (omega (arith, e, a, b), c.first p q (sym e)))
            (λ l. inl (omega (arith, l, a, b)))
            (eq-or-lt_of_le (c.least p q));
      }

  pub chosen_of_best : {o : List ℕ} → Best W (upto n) o → Chosen W n o
  chosen_of_best {o} b =
      record {
        order = b.perm;
        least = λ p q.
            let s = torn_is b.perm in
            let t = torn_is q in
            ⊎_elim (λ l. omega (arith, l, s, t)) (λ e. omega (arith, e.0, s, t)) (b.first p q);
        first = λ p q e.
            let s = torn_is b.perm in
            let t = torn_is q in
            ⊎_elim (λ l. absurd (omega (arith, l, e, s, t))) (λ f. f.1) (b.first p q);
      }

  -- "the block's order"
  pub chosen : Chosen W n (best W n)
  chosen = chosen_of_best (best_is W n)

  pub chosen_only : {o : List ℕ} → Chosen W n o → o ≡ best W n
  chosen_only c = best-only W n (best_of_chosen c)

  -- it has each place below n once
  pub best_order : Perm (upto n) (best W n)
  best_order = chosen.order

  pub best-length : length (best W n) ≡ n
  best-length = sym (perm_length best_order) ∙ length-upto n

  pub best_below : Each (λ x. x < n) (best W n)
  best_below = each_perm (λ x. x < n) best_order (upto_below n)

  pub best_at : (i : ℕ) → i < n → get_or (best W n) i 0 < n
  best_at i h = each_at (λ x. x < n) (best W n) i (omega (arith, best-length)) best_below

  pub best_distinct : Distinct (best W n)
  best_distinct = distinct_perm best_order (rising_distinct (upto n) (rising_upto n))

  -- no order of the places tears less
  pub best_least : (p : List ℕ) → Perm (upto n) p → torn W (upto n) (best W n) ≤ torn W (upto n) p
  best_least = chosen.least

  -- and of those that tear as little it is the first
  pub best-first : (p : List ℕ) → Perm (upto n) p → torn W (upto n) p ≡ torn W (upto n) (best W n) → Lex (best W n) p
  best-first = chosen.first

-- weights that agree on the places below n choose the same order
pub best_agree : (W X : ℕ → ℕ → ℕ) (n : ℕ) → ((i j : ℕ) → i < n → j < n → W i j ≡ X i j) → best W n ≡ best X n
best_agree W X n h =
    let c = chosen W n in
    let t : (o : List ℕ) → torn W (upto n) o ≡ torn X (upto n) o = λ o. torn_agree W X n o h in
    chosen_only X n
    (record {
      order = c.order;
      least = λ p q. omega (arith, c.least p q, t p, t (best W n));
      first = λ p q e. c.first p q (t p ∙ e ∙ sym (t (best W n)));
    })
