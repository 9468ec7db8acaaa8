-- `best` is the best order of the places below n. What the search holds is before every order that begins with a place it has seen; as the
-- places rise, of two that tear as little the one that begins earlier is first. Assumes nothing.
use mathlib.Core.Path.{◌≡◌, refl, sym, ap, ◌∙◌, subst}
use mathlib.Core.Logic.{inl, inr, ⊎_elim}
use mathlib.Core.List.{List, [], ◌∷◌, ◌++◌, append_assoc}
use Prim.Native.Nat.{ℕ, zero, suc, ◌<◌, ◌≤◌}
use native.Mathlib.Omega.{arith}
use native.Mathlib.Decide.{dec_le}
use native.Mathlib.Nat.{eq-or-lt_of_le}
use borrow.Author.Tests.{le-leb, lt-leb}
use lib.ListN.{length}
use Rattle.tearing.specs.Order.{Pick, here, there, Perm, none, next, upto, less, same}
use Rattle.tearing.specs.Weight.{weight, Before, Best}
use Rattle.tearing.specs.Best.{Found, lighter, begun, lightest_from, best_of, best}
use Rattle.tearing.proofs.Lists.{pick-length, pick_middle, length-upto, Each, each_pick, Rising, rising_pick, rising_upto}
use Rattle.tearing.proofs.Weight.{best_unique, weight_next, best_nil}

module _ (W : ℕ → ℕ → ℕ) where
  -- r is the best order of S, with its weight
  abbrev Good : List ℕ → Found → Type 0
  Good S r = (r.weight ≡ weight W r.order) × Best W S r.order

  -- r is an order of S, with its weight, and before each that begins with a member of back, where S is front and back
  abbrev Ahead : List ℕ → List ℕ → List ℕ → Found → Type 0
  Ahead S front back r =
      (r.weight ≡ weight W r.order)
      × Perm S r.order
      × ((v : ℕ) (Q o : List ℕ) → Pick v back Q → Perm (front ++ Q) o → Before W r.order (v ∷ o))

  -- u and the best order of the rest is before each order that begins with u
  begun_ahead : {S R o : List ℕ} (u : ℕ) (r : Found) → Pick u S R → Good R r → Perm R o → Before W (u ∷ r.order) (u ∷ o)
  begun_ahead {o = o} u r p g q =
      let a = weight_next W p g.1.perm in
      let b = weight_next W p q in
      ⊎_elim (λ l. inl (omega arith)) (λ e. inr (omega (arith, e.0), same e.1)) (g.1.first o q)

  module _ (S front : List ℕ) (u : ℕ) (back : List ℕ) (r b : Found) (here-u : Pick u S (front ++ back)) (good : Good (front ++ back) r) where
    begun-weight : (begun W S u r).weight ≡ weight W (u ∷ r.order)
    begun-weight = omega (arith, good.0, weight_next W here-u good.1.perm)

    -- where it is kept, and nothing else is seen yet
    alone : {v : ℕ} {Q o : List ℕ} → Pick v (u ∷ []) Q → back ≡ [] → Perm (front ++ Q) o → Before W (u ∷ r.order) (v ∷ o)
    alone here e q = begun_ahead u r here-u good (rw e q)
    alone (there p) e q = absurd (omega (arith, pick-length p))

    module _ (above : Each (λ x. u < x) back) (rest : Ahead S (front ++ (u ∷ [])) back b) where
      rest_ahead : {v : ℕ} {Q : List ℕ} (o : List ℕ) → Pick v back Q → Perm (front ++ u ∷ Q) o → Before W b.order (v ∷ o)
      rest_ahead {v} {Q} o p q = rest.2 v Q o p (rw (append_assoc front (u ∷ []) Q) q)

      -- it is kept before one that weighs as much and begins later
      kept : {v : ℕ} {Q o : List ℕ} → (begun W S u r).weight ≤ b.weight → Pick v (u ∷ back) Q → Perm (front ++ Q) o → Before W (u ∷ r.order) (v ∷ o)
      kept h here q = begun_ahead u r here-u good q
      kept {v} {o = o} h (there p) q =
          let w = begun-weight in
          let l = (each_pick (λ x. u < x) p above).0 in
          ⊎_elim (λ k. inl (omega (arith, rest.0, k)))
          (λ e.
          ⊎_elim (λ f. inr (omega (arith, rest.0, e.0), less l)) (λ f. inl (omega (arith, rest.0, e.0, f))) (eq-or-lt_of_le h))
          (rest_ahead o p q)

      -- and left for one that weighs less
      left : {v : ℕ} {Q o : List ℕ} → b.weight < (begun W S u r).weight → Pick v (u ∷ back) Q → Perm (front ++ Q) o → Before W b.order (v ∷ o)
      left h here q =
          let w = begun-weight in
          ⊎_elim (λ k. inl (omega (arith, rest.0, k))) (λ e. inl (omega (arith, rest.0, e.0))) (begun_ahead u r here-u good q)
      left {o = o} h (there p) q = rest_ahead o p q

      joins : Dec ((begun W S u r).weight ≤ b.weight) → Ahead S front (u ∷ back) (lighter (begun W S u r) b)
      joins (yes h) = rw (le-leb _ _ h) (begun-weight, next here-u good.1.perm, λ v Q o p q. kept h p q)
      joins (no h) =
          let l : b.weight < (begun W S u r).weight = omega arith in
          rw (lt-leb _ _ l) (rest.0, rest.1, λ v Q o p q. left l p q)

  scanned : (S front : List ℕ) (u : ℕ) (back : List ℕ) (g : List ℕ → Found)
      → S ≡ front ++ u ∷ back
      → Rising (u ∷ back)
      → ((v : ℕ) (R : List ℕ) → Pick v S R → Good R (g R))
      → Ahead S front (u ∷ back) (lightest_from W S g front u back)
  scanned S front u [] g e h good =
      let p : Pick u S (front ++ []) = rw e (pick_middle front u []) in
      let r = g (front ++ []) in
      let k = good u (front ++ []) p in
      (begun-weight S front u [] r r p k, next p k.1.perm, λ v Q o i q. alone S front u [] r r p k i refl q)
  scanned S front u (v ∷ back) g e h good =
      let p : Pick u S (front ++ v ∷ back) = rw e (pick_middle front u (v ∷ back)) in
      let rest = scanned S (front ++ (u ∷ [])) v back g (e ∙ sym (append_assoc front (u ∷ []) (v ∷ back))) h.1 good in
      joins S front u (v ∷ back) (g (front ++ v ∷ back)) (lightest_from W S g (front ++ (u ∷ [])) v back) p (good u (front ++ v ∷ back) p) h.0 rest
      (dec_le _ _)

  good_of : (k : ℕ) (S : List ℕ) → length S ≤ k → Rising S → Good S (best_of W k S)
  good_of zero [] l h = (refl, best_nil W)
  good_of zero (u ∷ S) l h = absurd (omega arith)
  good_of (suc k) [] l h = (refl, best_nil W)
  good_of (suc k) (u ∷ S) l h =
      let s = scanned (u ∷ S) [] u S (best_of W k) refl h (λ v R p. good_of k R (omega (arith, pick-length p)) (rising_pick p h)) in
      (s.0, record { perm = s.1; first = λ p q. ahead q refl s })
    where
      ahead : {T p : List ℕ} {r : Found} → Perm T p → T ≡ u ∷ S → Ahead (u ∷ S) [] (u ∷ S) r → Before W r.order p
      ahead none e s = absurd (omega (arith, ap length e))
      ahead (next {u = v} {R = R} {o = o} i q) e s = s.2 v R o (subst (λ (l : List ℕ). Pick v l R) e i) q

pub best_is : (W : ℕ → ℕ → ℕ) (n : ℕ) → Best W (upto n) (best W n)
unfolding best
best_is W n = (good_of W n (upto n) (omega (arith, length-upto n)) (rising_upto n)).1

-- whatever is best of the places below n is what `best` computes
pub best-only : (W : ℕ → ℕ → ℕ) (n : ℕ) {o : List ℕ} → Best W (upto n) o → o ≡ best W n
best-only W n b = best_unique W b (best_is W n)
