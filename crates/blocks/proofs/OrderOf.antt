-- The computed order follows rule 4. The set of what is placed marks the blocks listed so far, and what feeds them is among them: then
-- a place is free exactly when it is ready, so the lowest free place comes next, and each turn places one more. Assumes nothing.
use mathlib.Core.Path.{◌≡◌, refl, sym, subst}
use mathlib.Core.Logic.{◌⊎◌, inl, inr, ⊎_elim, ◌↔◌}
use mathlib.Core.Bool.{Bool, true, false, ◌&&◌, true≢false}
use mathlib.Core.List.Memᴰ
use mathlib.Core.List.{List, [], ◌∷◌, ◌++◌, Memᴰ}
use Prim.Native.Nat.{ℕ, zero, suc, ◌+◌, ◌<◌, ◌≤◌}
use native.Mathlib.Omega.{arith}
use native.Mathlib.Decide.{dec_lt}
use lib.Bits.{bit_or}
use lib.Dec.{eqb, ltb}
use lib.ListN.{length, get_or}
use borrow.Author.Tests.{eqb-true, eq-eqb, ltb-true, lt-ltb, le-ltb}
use Rattle.blocks.specs.Links.{Link, Path, link, SameBlock}
use Rattle.sets.specs.Sets.{bit, members}
use Rattle.blocks.specs.Reach.{reach_of}
use Rattle.blocks.specs.Blocks.{column_of, block_of, members_of, counts_of}
use Rattle.blocks.specs.Order.{pick, within, free, lowest_free, order_from, order_of}
use Rattle.blocks.specs.Rule4.{Placed, Ready, Follows, end, next, Rule4}
use Rattle.blocks.proofs.Lowest.{Lowest, lowest_is}
use Rattle.blocks.proofs.Bits.{bit_cases, bit_zero, or_left, or_right, or_either, or_within, within_or}
use Rattle.blocks.proofs.Paths.{path_to, same_to, same_sym}
use Rattle.blocks.proofs.Rounds.{reach_exact, path?}
use Rattle.blocks.proofs.Places.{column_has, column_only, places_gain, places_full, places_all, places_join, places_zero}
use Rattle.blocks.proofs.Blocks.{block_exact}
use Rattle.blocks.proofs.Rule4.{placed_same, placed_left, placed_last, placed_either, rule4_unique}
use Rattle.blocks.proofs.Free.{placed?, ready_exists, Fed, fed_none, fed_more, fed_path}

-- ---- a test that computes, and what it says

both_true : (a b : Bool) → (a && b) ≡ true → (a ≡ true) × (b ≡ true)
both_true true b e = (refl, e)
both_true false b e = absurd (true≢false (sym e))

-- i isn't placed, and whoever reaches it is placed or is reached by it
abbrev Clear : List ℕ → ℕ → ℕ → ℕ → Type 0
Clear t n placed i = (bit i placed ≡ 0) × ((j : ℕ) → j < n → Link t j i → Link t i j ⊎ (bit j placed ≡ 1))

free_clear : (t : List ℕ) (n placed i : ℕ) → free t n placed i ≡ true → Clear t n placed i
free_clear t n placed i e =
    let s = both_true (eqb (bit i placed) 0) (within (column_of t n i) (bit_or (get_or t i 0) placed)) e in (
      eqb-true (bit i placed) 0 s.0,
      λ j h l.
          or_either j (get_or t i 0) placed
          (within_or (column_of t n i) (bit_or (get_or t i 0) placed) (eqb-true _ _ s.1) j (column_has t n i j h l)),
    )

clear_free : (t : List ℕ) (n placed i : ℕ) → Clear t n placed i → free t n placed i ≡ true
clear_free t n placed i s =
    rw (eq-eqb (bit i placed) 0 s.0) (eq-eqb _ _ (or_within (column_of t n i) (bit_or (get_or t i 0) placed) inside))
  where
    inside : (j : ℕ) → bit j (column_of t n i) ≡ 1 → bit j (bit_or (get_or t i 0) placed) ≡ 1
    inside j e =
        let c = column_only t n i j e in
        ⊎_elim (or_left j (get_or t i 0) placed) (or_right j (get_or t i 0) placed) (s.1 j c.0 c.1)

-- ---- the order

order_most_from : (t : List ℕ) (n f placed : ℕ) → length (order_from t n f placed) ≤ f
unfolding order_from
order_most_from t n zero placed = omega arith
order_most_from t n (suc f) placed =
    let more : ℕ = bit_or placed (block_of t n (lowest_free t n placed n)) in
    shorter (ltb (lowest_free t n placed n) n) (lowest_free t n placed n) (order_from t n f more) (order_most_from t n f more)
  where
    shorter : (b : Bool) (x : ℕ) (l : List ℕ) → length l ≤ f → length (pick b (x ∷ l) []) ≤ suc f
    shorter true x l h = omega arith
    shorter false x l h = omega arith

-- At most n blocks are listed, from any table.
pub order_most : (t : List ℕ) (n : ℕ) → length (order_of t n) ≤ n
unfolding order_of
order_most t n = order_most_from t n n 0

below_from : (t : List ℕ) (n f placed i : ℕ) → Memᴰ i (order_from t n f placed) → i < n
unfolding order_from
below_from t n zero placed i p = absurd (Memᴰ.not-nil p)
below_from t n (suc f) placed i p =
    first (ltb x n) (ltb-true x n) (below_from t n f (bit_or placed (block_of t n x)) i) p
  where
    x : ℕ
    x = lowest_free t n placed n

    first : (b : Bool) → (b ≡ true → x < n) → {l : List ℕ} → (Memᴰ i l → i < n) → Memᴰ i (pick b (x ∷ l) []) → i < n
    first true h rest q = ⊎_elim (λ e. omega (arith, h refl)) rest (Memᴰ.cases_cons q)
    first false h rest q = absurd (Memᴰ.not-nil q)

-- Each is below n, from any table.
pub order_below : (t : List ℕ) (n i : ℕ) → Memᴰ i (order_of t n) → i < n
unfolding order_of
order_below t n i p = below_from t n n 0 i p

module _ (t : List ℕ) (size : length t ≡ 64) (n : ℕ) (inside : (a b : ℕ) → Link t a b → (a < n) × (b < n)) where
  -- the set `placed` holds the places of the blocks listed
  abbrev Marks : ℕ → List ℕ → Type 0
  Marks placed done = (j : ℕ) → j < n → (bit j placed ≡ 1) ↔ Placed (Link t) j done

  marks_none : Marks 0 []
  marks_none j h = (λ e. absurd (omega (arith, bit_zero j, e)), λ p. elim p [ ])

  free_ready : (placed : ℕ) (done : List ℕ) (i : ℕ) → Marks placed done → i < n → free (reach_of t) n placed i ≡ true → Ready (Link t) n done i
  free_ready placed done i marks h e =
      let c = free_clear (reach_of t) n placed i e in
      record {
        known = h;
        left = λ p. omega (arith, c.0, (marks i h).1 p);
        fed = λ a b l x y.
            let p = path_to (link l) (same_to (same_sym x)) in
            let k = (inside a b l).0 in
            ⊎_elim (λ q. absurd (y (inr ((reach_exact t size i a).0 q, p)))) (marks a k).0
            (c.1 a k ((reach_exact t size a i).1 p));
      }

  ready_free : (placed : ℕ) (done : List ℕ) (i : ℕ) → Marks placed done → Fed (Link t) done → Ready (Link t) n done i → free (reach_of t) n placed i ≡ true
  ready_free placed done i marks fed r =
      clear_free (reach_of t) n placed i (
        ⊎_elim (λ z. z) (λ o. absurd (r.left ((marks i r.known).0 o))) (bit_cases i placed),
        λ j h l. feeds j h ((reach_exact t size j i).0 l) (path? t size i j),
      )
    where
      feeds : (j : ℕ) → j < n → Path (Link t) j i → Dec (Path (Link t) i j) → Link (reach_of t) i j ⊎ (bit j placed ≡ 1)
      feeds j h p (yes q) = inl ((reach_exact t size i j).1 q)
      feeds j h p (no f) = inr ((marks j h).1 (fed_path (path? t size) fed r p (inl refl) (apart f p)))
        where
          apart : (Path (Link t) i j → ⊥) → Path (Link t) j i → SameBlock (Link t) i j → ⊥
          apart g q (inl e) = g (subst (λ (x : ℕ). Path (Link t) i x) e (subst (λ (x : ℕ). Path (Link t) x i) (sym e) q))
          apart g q (inr s) = g s.0

  marks_more : (placed : ℕ) (done : List ℕ) (i : ℕ) → Marks placed done → Marks (bit_or placed (block_of (reach_of t) n i)) (done ++ (i ∷ []))
  marks_more placed done i marks j h = (
    λ b.
        ⊎_elim
        (λ o. placed_left (i ∷ []) ((marks j h).0 o))
        (λ o. placed_last done ((block_exact t size n i j h).0 o))
        (or_either j placed (block_of (reach_of t) n i) b),
    λ p.
        ⊎_elim
        (λ q. or_left j placed (block_of (reach_of t) n i) ((marks j h).1 q))
        (λ s. or_right j placed (block_of (reach_of t) n i) ((block_exact t size n i j h).1 s))
        (placed_either done p),
  )

  -- the order of what isn't placed, where f blocks are enough
  abbrev Goes : ℕ → Type 0
  Goes f =
      (placed : ℕ) (done : List ℕ) → Marks placed done → Fed (Link t) done → n ≤ length (members n placed) + f
      → Follows (Link t) n done (order_from (reach_of t) n f placed)

  order_follows : (f : ℕ) → Goes f
  unfolding order_from
  order_follows zero placed done marks fed room = end (λ j h. (marks j h).0 (places_full n placed (omega arith) j h))
  order_follows (suc f) placed done marks fed room = go (lowest_is (reach_of t) n placed n (omega arith)) (order_follows f)
    where
      x : ℕ
      x = lowest_free (reach_of t) n placed n

      block : ℕ
      block = block_of (reach_of t) n x

      -- where no place is free, none is left
      all : ((i : ℕ) → i < n → free (reach_of t) n placed i ≡ true → ⊥) → (j : ℕ) → j < n → Dec (Placed (Link t) j done) → Placed (Link t) j done
      all s j h (yes p) = p
      all s j h (no g) =
          let r = ready_exists (path? t size) n (λ a b l. (inside a b l).0) done j h g in
          absurd (s r.0 r.1.known (ready_free placed done r.0 marks fed r.1))

      lowest : ((j : ℕ) → j < x → free (reach_of t) n placed j ≡ true → ⊥) → (j : ℕ) → Ready (Link t) n done j → x ≤ j
      lowest s j q = elim (dec_lt j x) [ yes l ↦ absurd (s j l (ready_free placed done j marks fed q)) | no g ↦ omega arith ]

      go : Lowest (reach_of t) n placed n x → Goes f → Follows (Link t) n done (pick (ltb x n) (x ∷ order_from (reach_of t) n f (bit_or placed block)) [])
      go (inl s) rec =
          rw (le-ltb x n (omega (arith, s.0)))
          (end {done = done} (λ j h. all s.1 j h (placed? (path? t size) j done)))
      go (inr s) rec =
          let r = free_ready placed done x marks s.0 s.1 in
          let own = or_right x placed block ((block_exact t size n x x s.0).1 (inl refl)) in
          let gain = places_gain n placed (bit_or placed block) x (λ j. or_left j placed block) s.0 (free_clear (reach_of t) n placed x s.1).0 own in
          rw (lt-ltb x n s.0)
          (next (record { ready = r; lowest = lowest s.2 })
          (rec (bit_or placed block) (done ++ (x ∷ [])) (marks_more placed done x marks) (fed_more (path? t size) fed r) (omega arith)))

  -- The computed order follows rule 4.
  pub order_rule4 : Rule4 (Link t) n (order_of (reach_of t) n)
  unfolding order_of
  order_rule4 = order_follows n 0 [] marks_none fed_none (omega arith)

  -- So every order that follows rule 4 is this one.
  pub order_only : (o : List ℕ) → Rule4 (Link t) n o → o ≡ order_of (reach_of t) n
  order_only o r = rule4_unique r order_rule4

  counts_follow : {done o : List ℕ} (placed : ℕ) → Marks placed done → Follows (Link t) n done o → counts_of (reach_of t) n o + length (members n placed) ≡ n
  unfolding members_of
  counts_follow placed marks (end f) = omega (arith, places_all n placed (λ j h. (marks j h).1 (f j h)))
  counts_follow placed marks (next {i = i} {done = done} h r) =
      omega
      (arith, counts_follow (bit_or placed (block_of (reach_of t) n i)) (marks_more placed done i marks) r, places_join n placed (block_of (reach_of t) n i) apart)
    where
      apart : (j : ℕ) → j < n → bit j placed ≡ 1 → bit j (block_of (reach_of t) n i) ≡ 1 → ⊥
      apart j l o b = h.ready.left (placed_same (same_sym ((block_exact t size n i j l).0 b)) ((marks j l).0 o))

  -- The members of its blocks are n together.
  pub order_counts : counts_of (reach_of t) n (order_of (reach_of t) n) ≡ n
  order_counts = omega (arith, counts_follow 0 marks_none order_rule4, places_zero n)
