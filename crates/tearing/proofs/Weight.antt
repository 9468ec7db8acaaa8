-- What is best and what is least, for a set of any places. Assumes nothing.
use mathlib.Core.Path.{◌≡◌, refl, ap, ◌∙◌}
use mathlib.Core.Logic.{inl, inr, ⊎_elim}
use mathlib.Core.List.{List, [], ◌∷◌}
use Prim.Native.Nat.{ℕ, ◌+◌, ◌≤◌}
use native.Mathlib.Omega.{arith}
use lib.ListN.{length}
use Rattle.tearing.specs.Order.{Pick, Perm, none, next, Lex, end, less, same}
use Rattle.tearing.specs.Weight.{into, weight, Before, Best, Least, all}
use Rattle.tearing.proofs.Lists.{pick-length, sum-pick, sum_perm, sum_same, sum_mono}

-- two comparisons of the same two orders, each way round
pub lex_at : {o p o' p' : List ℕ} → Lex o p → Lex p' o' → o ≡ o' → p ≡ p' → o ≡ p
lex_at end k e f = refl
lex_at (less {u = u} {v = v} h) end e f = absurd (cc)
lex_at (less {u = u} {v = v} h) (less {u = u'} {v = v'} k) e f =
    let a : u ≡ v' = cc in
    let b : v ≡ u' = cc in
    absurd (omega arith)
lex_at (less {u = u} {v = v} h) (same {u = u'} r) e f =
    let a : u ≡ u' = cc in
    let b : v ≡ u' = cc in
    absurd (omega arith)
lex_at (same {u = u} q) end e f = absurd (cc)
lex_at (same {u = u} q) (less {u = u'} {v = v'} k) e f =
    let a : u ≡ v' = cc in
    let b : u ≡ u' = cc in
    absurd (omega arith)
lex_at (same {u = u} {o = o} {p = p} q) (same {o = p'} {p = o'} r) e f =
    let a : o ≡ o' = cc in
    let b : p ≡ p' = cc in
    ap (λ (l : List ℕ). u ∷ l) (lex_at q r a b)

pub lex_both : {o p : List ℕ} → Lex o p → Lex p o → o ≡ p
lex_both q r = lex_at q r refl refl

module _ (W : ℕ → ℕ → ℕ) where
  both : {o p : List ℕ} → Before W o p → Before W p o → o ≡ p
  both (inl a) (inl b) = absurd (omega arith)
  both (inl a) (inr b) = absurd (omega arith)
  both (inr a) (inl b) = absurd (omega arith)
  both (inr a) (inr b) = lex_both a.1 b.1

  -- a set has one best order
  pub best_unique : {S o p : List ℕ} → Best W S o → Best W S p → o ≡ p
  best_unique {o = o} {p = p} a b = both (a.first p b.perm) (b.first o a.perm)

  pub weight_next : {u : ℕ} {S R o : List ℕ} → Pick u S R → Perm R o → weight W (u ∷ o) ≡ into W u S + weight W o
  weight_next {u} p q = omega (arith, sum-pick (λ w. W w u) p, sum_perm (λ w. W w u) q)

  nil_only : {S p : List ℕ} → Perm S p → S ≡ [] → p ≡ []
  nil_only none e = refl
  nil_only (next p q) e = absurd (omega (arith, pick-length p, ap length e))

  pub best_nil : Best W [] []
  best_nil = record { perm = none; first = λ p q. rw (nil_only q refl) (inr (refl, end)) }

  pub least_nil : Least W [] 0
  least_nil = record { order = []; perm = none; is = refl; below = λ p q. omega arith }

  -- the best order weighs the least
  pub least_is : {S o : List ℕ} {x : ℕ} → Best W S o → Least W S x → weight W o ≡ x
  least_is {o = o} b l =
      let h = l.below o b.perm in
      ⊎_elim (λ w. omega (arith, l.is)) (λ w. omega (arith, l.is, w.0)) (b.first l.order l.perm)

  -- an order tears no more than there is
  all_more : (S R : List ℕ) (x : ℕ) → all W S R ≤ all W S (x ∷ R)
  all_more S R x = sum_mono (λ u. into W u R) (λ u. into W u (x ∷ R)) S (λ u. omega arith)

  pub weight-all : (o : List ℕ) → weight W o ≤ all W o o
  weight-all [] = omega arith
  weight-all (u ∷ o) = omega (arith, weight-all o, all_more o o u)

  -- the order does not matter for all there is
  pub all_perm : {S o : List ℕ} → Perm S o → all W S S ≡ all W o o
  all_perm {S} {o} p =
      sum_same (λ u. into W u S) (λ u. into W u o) S (λ u. sum_perm (λ w. W w u) p) ∙ sum_perm (λ u. into W u o) p
