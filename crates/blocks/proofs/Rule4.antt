-- What follows of any order that rule 4 allows, over any relation of links: it is the only one, each place stands in exactly one of
-- its blocks, and every link between two blocks runs forward. Assumes nothing.
use mathlib.Core.Path.{◌≡◌, refl, sym, ap, ap₂, subst}
use mathlib.Core.Logic.{◌⊎◌, inl, inr, ⊎_elim}
use mathlib.Core.List.{List, [], ◌∷◌, ◌++◌, append-nil, append_assoc}
use Prim.Native.Nat.{ℕ, ◌<◌}
use native.Mathlib.Omega.{arith}
use Rattle.blocks.specs.Links.{SameBlock}
use Rattle.blocks.specs.Rule4.{Placed, here, there, Ready, Next, Follows, end, next, Rule4, Once, Before}
use Rattle.blocks.proofs.Paths.{same_sym, same_trans}

module _ {L : ℕ → ℕ → Type 0} where
  pub placed_same : {i j : ℕ} {o : List ℕ} → SameBlock L i j → Placed L i o → Placed L j o
  placed_same s (here r) = here (same_trans r s)
  placed_same s (there p) = there (placed_same s p)

  pub placed_left : {j : ℕ} {o : List ℕ} (p : List ℕ) → Placed L j o → Placed L j (o ++ p)
  placed_left p (here s) = here s
  placed_left p (there q) = there (placed_left p q)

  pub placed_right : {j : ℕ} (o : List ℕ) {p : List ℕ} → Placed L j p → Placed L j (o ++ p)
  placed_right [] q = q
  placed_right (x ∷ o) q = there (placed_right o q)

  pub placed_last : {i j : ℕ} (o : List ℕ) → SameBlock L i j → Placed L j (o ++ (i ∷ []))
  placed_last o s = placed_right o (here s)

  placed_none : {j : ℕ} → Placed L j [] → ⊥
  placed_none p = elim p [ ]

  pub placed_either : {i j : ℕ} (o : List ℕ) → Placed L j (o ++ (i ∷ [])) → Placed L j o ⊎ SameBlock L i j
  placed_either [] (here s) = inr s
  placed_either [] (there q) = absurd (placed_none q)
  placed_either (x ∷ o) (here s) = inl (here s)
  placed_either (x ∷ o) (there q) = ⊎_elim (λ p. inl (there p)) (λ s. inr s) (placed_either o q)

-- where a listed block stands: it came next after those before it
record Stands (L : ℕ → ℕ → Type 0) (n : ℕ) (done o : List ℕ) (j : ℕ) : Type 0 where
  place : ℕ
  before : List ℕ
  after : List ℕ
  split : o ≡ before ++ (place ∷ after)
  same : SameBlock L place j
  turn : Next L n (done ++ before) place
  rest : Follows L n ((done ++ before) ++ (place ∷ [])) after

module _ {L : ℕ → ℕ → Type 0} {n : ℕ} where
  -- a block is ready or not as a whole
  pub ready_same : {done : List ℕ} {i j : ℕ} → SameBlock L i j → j < n → Ready L n done i → Ready L n done j
  ready_same s h r =
      record {
        known = h;
        left = λ p. r.left (placed_same (same_sym s) p);
        fed = λ a b l x y. r.fed a b l (same_trans s x) (λ z. y (same_trans (same_sym s) z));
      }

  follows_unique : {done o p : List ℕ} → Follows L n done o → Follows L n done p → o ≡ p
  follows_unique (end f) (end g) = refl
  follows_unique (end f) (next {i = i} h r) = absurd (h.ready.left (f i h.ready.known))
  follows_unique (next {i = i} h r) (end g) = absurd (h.ready.left (g i h.ready.known))
  follows_unique (next {i = i} {done = done} h r) (next {i = j} {rest = q} k s) =
      let e : j ≡ i = omega (arith, h.lowest j k.ready, k.lowest i h.ready) in
      ap₂ (λ (x : ℕ) (l : List ℕ). x ∷ l) (sym e)
      (follows_unique r (subst (λ (x : ℕ). Follows L n (done ++ (x ∷ [])) q) e s))

  follows_all : {done o : List ℕ} → Follows L n done o → (j : ℕ) → j < n → Placed L j (done ++ o)
  follows_all {done} (end f) j h = rw (append-nil done) (f j h)
  follows_all {done} (next {i = i} {rest = o} x r) j h = rw (append_assoc done (i ∷ []) o) at (follows_all r j h)

  -- what is placed doesn't come again
  follows_once : {done o : List ℕ} {j : ℕ} → Follows L n done o → Placed L j done → Placed L j o → ⊥
  follows_once (end _) p q = elim q [ ]
  follows_once (next h r) p (here s) = h.ready.left (placed_same (same_sym s) p)
  follows_once (next {i = i} h r) p (there q) = follows_once r (placed_left (i ∷ []) p) q

  stands : {done o : List ℕ} {j : ℕ} → Follows L n done o → Placed L j o → Stands L n done o j
  stands (end _) p = elim p [ ]
  stands {done} (next {i = i} {rest = o} h r) (here s) =
      record {
        place = i;
        before = [];
        after = o;
        split = refl;
        same = s;
        turn = rw (append-nil done) h;
        rest = rw (append-nil done) r;
      }
  stands {done} (next {i = i} {rest = o} h r) (there q) =
      let w = stands r q in
      record {
        place = w.place;
        before = i ∷ w.before;
        after = w.after;
        split = ap (λ (l : List ℕ). i ∷ l) w.split;
        same = w.same;
        turn = subst (λ (l : List ℕ). Next L n l w.place) (append_assoc done (i ∷ []) w.before) w.turn;
        rest =
            subst (λ (l : List ℕ). Follows L n (l ++ (w.place ∷ [])) w.after) (append_assoc done (i ∷ []) w.before) w.rest;
      }

  -- Any two orders that follow the rule are equal.
  pub rule4_unique : {o p : List ℕ} → Rule4 L n o → Rule4 L n p → o ≡ p
  rule4_unique = follows_unique

  -- Each place below n is in exactly one listed block.
  pub rule4_once : {o : List ℕ} → Rule4 L n o → (j : ℕ) → j < n → Once L n o j
  rule4_once r j h =
      let w = stands r (follows_all r j h) in
      record {
        place = w.place;
        before = w.before;
        after = w.after;
        split = w.split;
        same = w.same;
        not_before = λ p. w.turn.ready.left (placed_same (same_sym w.same) p);
        not_after = λ p. follows_once w.rest (placed_last w.before w.same) p;
        known = w.turn.ready.known;
        lowest = λ k l s. w.turn.lowest k (ready_same s l w.turn.ready);
      }

  -- Every link between two blocks runs from an earlier to a later one.
  pub rule4_forward : {o : List ℕ} → Rule4 L n o → (a b : ℕ) → b < n → L a b → (SameBlock L a b → ⊥) → Before L o a b
  rule4_forward r a b h l f =
      let w = stands r (follows_all r b h) in
      record {
        front = w.before;
        back = w.place ∷ w.after;
        split = w.split;
        source = w.turn.ready.fed a b l w.same (λ s. f (same_trans (same_sym s) w.same));
        receiver = here w.same;
        apart = λ p. w.turn.ready.left (placed_same (same_sym w.same) p);
      }
