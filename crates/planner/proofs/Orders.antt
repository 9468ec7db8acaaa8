-- Orders of a list: they have its members, an order of places is carried to an order of the units in those places and back, and lists with
-- the same members are orders of one another. Assumes nothing.
use mathlib.Core.List.Memᴰ
use mathlib.Core.List.{List, [], ◌∷◌, ◌++◌, map, map-append, Memᴰ}
use mathlib.Core.Logic.{◌⊎◌, inl, inr, ⊎_elim}
use mathlib.Core.Path.{◌≡◌, refl, sym, ap, ap₂, ◌∙◌, subst}
use Prim.Native.Nat.{ℕ, zero, suc, ◌<◌, ◌≤◌}
use native.Mathlib.Omega.{arith}
use lib.ListN.{length, get_or, take}
use lib.Seq.{take-suc, take-length}
use Rattle.flowsheet.specs.declared.Stream.{Stream}
use Rattle.tearing.specs.Order.{Pick, here, there, Perm, none, next, upto, Lex, end, less, same}
use Rattle.tearing.specs.Row.{weights}
use Rattle.tearing.proofs.Chosen.{best_order}
use Rattle.tearing.proofs.Lists.{Distinct, distinct_pick, pick-length, perm_length}
use Rattle.planner.specs.Plan.{row_of, ordered_of}
use Rattle.planner.proofs.Members.{each_mem}

-- ---- members

pub pick_mem : {u : ℕ} {S R : List ℕ} → Pick u S R → (x : ℕ) → Memᴰ x S → (x ≡ u) ⊎ Memᴰ x R
pick_mem here x p = Memᴰ.cases_cons p
pick_mem {u} (there {x = y} {S = S} {R = R} q) x p = go (pick_mem q x) (Memᴰ.cases_cons p)
  where
    go : (Memᴰ x S → (x ≡ u) ⊎ Memᴰ x R) → (x ≡ y) ⊎ Memᴰ x S → (x ≡ u) ⊎ Memᴰ x (y ∷ R)
    go rest (inl e) = inr (Memᴰ.head e)
    go rest (inr m) = ⊎_elim (λ e. inl e) (λ r. inr (Memᴰ.tail r)) (rest m)

pub mem_picked : {u : ℕ} {S R : List ℕ} → Pick u S R → (x : ℕ) → (x ≡ u) ⊎ Memᴰ x R → Memᴰ x S
mem_picked here x (inl e) = Memᴰ.head e
mem_picked here x (inr p) = Memᴰ.tail p
mem_picked (there q) x (inl e) = Memᴰ.tail (mem_picked q x (inl e))
mem_picked (there q) x (inr p) =
    ⊎_elim (λ e. Memᴰ.head e) (λ m. Memᴰ.tail (mem_picked q x (inr m))) (Memᴰ.cases_cons p)

-- an order has the members of the list
pub perm_mem : {S o : List ℕ} → Perm S o → (x : ℕ) → Memᴰ x S → Memᴰ x o
perm_mem none x p = p
perm_mem (next q r) x p = ⊎_elim (λ e. Memᴰ.head e) (λ m. Memᴰ.tail (perm_mem r x m)) (pick_mem q x p)

-- and no others
pub mem_perm : {S o : List ℕ} → Perm S o → (x : ℕ) → Memᴰ x o → Memᴰ x S
mem_perm none x p = p
mem_perm (next q r) x p =
    ⊎_elim (λ e. mem_picked q x (inl e)) (λ m. mem_picked q x (inr (mem_perm r x m))) (Memᴰ.cases_cons p)

pick_of : {u : ℕ} {S : List ℕ} → Memᴰ u S → (R : List ℕ) × Pick u S R
pick_of {u} (Memᴰ.head {x = x} {xs = S} e) = (S, subst (λ (y : ℕ). Pick u (y ∷ S) S) e here)
pick_of (Memᴰ.tail {x = x} p) = let r = pick_of p in (x ∷ r.0, there r.1)

-- two lists with the same members, in each of which none stands twice, are orders of one another
pub same_members : (S o : List ℕ) → Distinct S → Distinct o → ((x : ℕ) → Memᴰ x S → Memᴰ x o)
    → ((x : ℕ) → Memᴰ x o → Memᴰ x S) → Perm S o
same_members [] [] d e f g = none
same_members (x ∷ S) [] d e f g = absurd (Memᴰ.not-nil (f x (Memᴰ.head refl)))
same_members S (u ∷ o) d e f g =
    let r = pick_of (g u (Memᴰ.head refl)) in
    let a = distinct_pick r.1 d in
    next r.1
    (same_members r.0 o a.1 e.1
    (λ x p.
    ⊎_elim (λ q. absurd (each_mem (λ y. u ≡ y → ⊥) a.0 p (sym q))) (λ m. m)
    (Memᴰ.cases_cons (f x (mem_picked r.1 x (inr p)))))
    (λ x p.
    ⊎_elim (λ q. absurd (each_mem (λ y. u ≡ y → ⊥) e.0 p (sym q))) (λ m. m)
    (pick_mem r.1 x (g x (Memᴰ.tail p)))))

-- a list in which none stands twice is at most as long as one that has all its members
pub length_within : (S o : List ℕ) → Distinct S → ((x : ℕ) → Memᴰ x S → Memᴰ x o) → length S ≤ length o
length_within [] o d f = omega arith
length_within (u ∷ S) o d f =
    let r = pick_of (f u (Memᴰ.head refl)) in
    let rest =
    length_within S r.0 d.1
    (λ x p.
    ⊎_elim (λ q. absurd (each_mem (λ y. u ≡ y → ⊥) d.0 p (sym q))) (λ m. m)
    (pick_mem r.1 x (f x (Memᴰ.tail p)))) in
    omega (arith, pick-length r.1)

-- ---- carried along a function

module _ (f : ℕ → ℕ) where
  pick-map : {u : ℕ} {S R : List ℕ} → Pick u S R → Pick (f u) (map f S) (map f R)
  pick-map here = here
  pick-map (there p) = there (pick-map p)

  pub perm_map : {S o : List ℕ} → Perm S o → Perm (map f S) (map f o)
  perm_map none = none
  perm_map (next p q) = next (pick-map p) (perm_map q)

  -- a member taken out of the carried list is carried from one taken out of the list
  pick_back : {v : ℕ} {S' R' : List ℕ} → Pick v S' R' → (S : List ℕ) → S' ≡ map f S
      → (u : ℕ) × (R : List ℕ) × Pick u S R × (v ≡ f u) × (R' ≡ map f R)
  pick_back here [] e = absurd (let z : ◌≡◌ {A = ℕ} 0 1 = cc in omega arith)
  pick_back here (x ∷ S) e = (x, S, here, (cc), (cc))
  pick_back (there p) [] e = absurd (let z : ◌≡◌ {A = ℕ} 0 1 = cc in omega arith)
  pick_back (there {x = y} {S = S'} {R = R'} p) (x ∷ S) e =
      let rest : S' ≡ map f S = cc in
      let head : y ≡ f x = cc in
      let r = pick_back p S rest in
      (r.0, x ∷ r.1, there r.2, r.3, ap₂ (λ (a : ℕ) (l : List ℕ). a ∷ l) head r.4)

  -- every order of the carried list is carried from an order of the list
  pub perm_back : {S' o' : List ℕ} → Perm S' o' → (S : List ℕ) → S' ≡ map f S → (o : List ℕ) × Perm S o × (o' ≡ map f o)
  perm_back none [] e = ([], none, refl)
  perm_back none (x ∷ S) e = absurd (let z : ◌≡◌ {A = ℕ} 0 1 = cc in omega arith)
  perm_back (next p q) S e =
      let r = pick_back p S e in
      let s = perm_back q r.1 r.4 in
      (r.0 ∷ s.0, next r.2 s.1, ap₂ (λ (a : ℕ) (l : List ℕ). a ∷ l) r.3 s.2)

  -- a function that rises on the members keeps which of two orders comes first
  pub lex_map : {o p : List ℕ} → ((x y : ℕ) → Memᴰ x o → Memᴰ y p → x < y → f x < f y) → Lex o p → Lex (map f o) (map f p)
  lex_map up end = end
  lex_map up (less h) = less (up _ _ (Memᴰ.head refl) (Memᴰ.head refl) h)
  lex_map up (same l) = same (lex_map (λ x y p q. up x y (Memᴰ.tail p) (Memᴰ.tail q)) l)

-- ---- a block and its places

front_at : (l : List ℕ) (n : ℕ) → n ≤ length l → map (λ (i : ℕ). get_or l i 0) (upto n) ≡ take n l
front_at l zero h = refl
front_at l (suc n) h =
    map-append (λ (i : ℕ). get_or l i 0) (upto n) (n ∷ [])
    ∙ ap (λ (m : List ℕ). m ++ (get_or l n 0 ∷ [])) (front_at l n (omega arith))
    ∙ sym (take-suc l n 0 h)

-- the units in all its places are the block
pub block_at_lem : (l : List ℕ) → map (λ (i : ℕ). get_or l i 0) (upto (length l)) ≡ l
block_at_lem l = front_at l (length l) (omega arith) ∙ take-length l

-- The block's order has each of its units once.
pub ordered_perm : (block : List ℕ) (ss : List Stream) → Perm block (ordered_of block ss)
unfolding ordered_of
ordered_perm block ss =
    subst (λ (l : List ℕ). Perm l (ordered_of block ss)) (block_at_lem block)
    (perm_map (λ (i : ℕ). get_or block i 0) (best_order (weights (row_of block ss)) (length block)))

pub ordered_length : (block : List ℕ) (ss : List Stream) → length (ordered_of block ss) ≡ length block
ordered_length block ss = sym (perm_length (ordered_perm block ss))
