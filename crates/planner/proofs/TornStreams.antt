-- The torn streams. `is_torn` tests for what rule 2 says, `torn_of` lists the torn streams' numbers, rising; and no stream is torn in two
-- blocks, so there are at most as many torn streams as streams. Assumes nothing.
use mathlib.Core.Bool.{Bool, true, false, cond, true≢false}
use mathlib.Core.List.Memᴰ
use mathlib.Core.List.{List, [], ◌∷◌, ◌++◌, map, Memᴰ, append-nil}
use mathlib.Core.Logic.{◌⊎◌, inl, inr, ⊎_elim, ◌↔◌}
use mathlib.Core.Path.{◌≡◌, refl, sym, ap, ◌∙◌, subst}
use Prim.Native.Nat.{ℕ, suc, ◌+◌, ◌-◌, ◌<◌, ◌≤◌}
use native.Mathlib.Decide.{dec_lt}
use native.Mathlib.Omega.{arith}
use borrow.Author.Tests.{ltb-true, ltb-false, le-ltb, not-true, not-false}
use lib.Dec.{ltb}
use lib.ListN.{length, get_or, take, drop, length-append, length-drop, length-map, get_or-map}
use lib.Seq.{split_at, get_or-drop, get_or-append_seam, get_or-append-add}
use Rattle.flowsheet.specs.Good.{Good}
use Rattle.flowsheet.specs.Sheet.{no_stream, place_of}
use Rattle.std.specs.Prelude.{Option, Some, None}
use Rattle.flowsheet.specs.declared.Stream.{Stream}
use Rattle.flowsheet.proofs.Good.{rising}
use Rattle.flowsheet.proofs.Places.{place_found}
use Rattle.tearing.proofs.Lists.{Distinct}
use Rattle.planner.specs.Demand2.{StandsBefore, Torn, Rises, none, more}
use Rattle.planner.specs.Plan.{torn_between, is_torn, ordered_of, torn_of, block_plan, blocks_of, plan_of}
use Rattle.planner.specs.Tables.{order_table, torn_table}
use Rattle.planner.proofs.Found.{found_mem, mem_found, place_is, at_same}
use Rattle.planner.proofs.Members.{mem_at, at_mem, distinct_right, distinct_apart, rises_at}
use Rattle.planner.proofs.Parted.{plans_of, front_distinct}

-- ---- the test

-- both ends are in the order, and the source doesn't stand before the receiver
between_true : (p q : Option ℕ) → torn_between p q ≡ true → (i : ℕ) × (j : ℕ) × (p ≡ Some i) × (q ≡ Some j) × (j ≤ i)
between_true (Some i) (Some j) e = (i, j, refl, refl, ltb-false i j (not-true (ltb i j) e))
between_true (Some i) None e = absurd (true≢false (sym e))
between_true None q e = absurd (true≢false (sym e))

pub torn_places : (order : List ℕ) (s : Stream) → is_torn order s ≡ true
    → (i : ℕ) × (j : ℕ) × (place_of order s.source ≡ Some i) × (place_of order s.receiver ≡ Some j) × (j ≤ i)
unfolding is_torn
torn_places order s e = between_true (place_of order s.source) (place_of order s.receiver) e

-- a torn stream's ends are in the block
pub torn_source : (order : List ℕ) (s : Stream) → is_torn order s ≡ true → Memᴰ s.source order
torn_source order s e = let r = torn_places order s e in found_mem order s.source r.0 r.2

pub torn_receiver : (order : List ℕ) (s : Stream) → is_torn order s ≡ true → Memᴰ s.receiver order
torn_receiver order s e = let r = torn_places order s e in found_mem order s.receiver r.1 r.3

-- one stands before another where its place is lower
pub stands_lower : {order : List ℕ} {u v : ℕ} → Distinct order → StandsBefore order u v
    → (i : ℕ) × (j : ℕ) × (place_of order u ≡ Some i) × (place_of order v ≡ Some j) × (i < j)
stands_lower {order} {u} {v} d b =
    let k = at_mem 0 b.later in
    let seam = ap length b.split ∙ length-append b.front (u ∷ b.back) in
    let at = ap (λ (l : List ℕ). get_or l (length b.front) 0) b.split ∙ get_or-append_seam b.front u b.back 0 in
    let beyond =
    ap (λ (l : List ℕ). get_or l (length b.front + suc k.0) 0) b.split
    ∙ get_or-append-add b.front (u ∷ b.back) (suc k.0) 0
    ∙ k.2 in (
      length b.front,
      length b.front + suc k.0,
      place_is order d u (length b.front) (omega (arith, seam)) at,
      place_is order d v (length b.front + suc k.0) (omega (arith, seam, k.1)) beyond,
      omega arith,
    )

pub lower_stands : (order : List ℕ) (u v i j : ℕ) → place_of order u ≡ Some i → place_of order v ≡ Some j → i < j → StandsBefore order u v
lower_stands order u v i j e f h =
    let a = place_found order u i e in
    let b = place_found order v j f in
    record {
      front = take i order;
      back = drop (suc i) order;
      split = split_at order i 0 a.0 ∙ ap (λ (x : ℕ). take i order ++ (x ∷ drop (suc i) order)) a.1;
      later =
          Memᴰ.cast (sym (get_or-drop (suc i) order (j - suc i) 0 ∙ ap (λ (k : ℕ). get_or order k 0) (back_to i j h) ∙ b.1))
          (mem_at (drop (suc i) order) (j - suc i) 0 (omega (arith, length-drop (suc i) order, b.0)));
    }
  where
    back_to : (x y : ℕ) → x < y → suc x + (y - suc x) ≡ y
    back_to x y l = omega arith

-- The test is rule 2, of an order in which no number stands twice.
pub torn_is : (order : List ℕ) → Distinct order → (s : Stream) → (is_torn order s ≡ true) ↔ Torn order s
unfolding is_torn
torn_is order d s = (there, back)
  where
    there : is_torn order s ≡ true → Torn order s
    there e =
        let r = torn_places order s e in
        record {
          source = torn_source order s e;
          receiver = torn_receiver order s e;
          back = λ b.
              let q = stands_lower d b in
              let x : r.0 ≡ q.0 = at_same (sym r.2 ∙ q.2) in
              let y : r.1 ≡ q.1 = at_same (sym r.3 ∙ q.3) in
              omega (arith, x, y, r.4, q.4);
        }

    back : Torn order s → is_torn order s ≡ true
    back t =
        let a = mem_found order s.source t.source in
        let b = mem_found order s.receiver t.receiver in
        let test : ltb a.0 b.0 ≡ false =
        elim (dec_lt a.0 b.0) [
          | yes l ↦ absurd (t.back (lower_stands order s.source s.receiver a.0 b.0 a.1 b.1 l))
          | no f ↦ le-ltb a.0 b.0 (omega arith)
        ] in
        rw (a.1, b.1, test)

-- a stream with both ends in the order that isn't torn runs forward
pub untorn_stands : (order : List ℕ) (s : Stream) → Memᴰ s.source order → Memᴰ s.receiver order → is_torn order s ≡ false
    → StandsBefore order s.source s.receiver
unfolding is_torn
untorn_stands order s p q e =
    let a = mem_found order s.source p in
    let b = mem_found order s.receiver q in
    lower_stands order s.source s.receiver a.0 b.0 a.1 b.1
    (ltb-true a.0 b.0 (not-false (ltb a.0 b.0) (rw (a.1, b.1) at e)))

-- ---- the list of the torn streams' numbers

-- n is the number of a torn stream
abbrev pub Listed : List ℕ → ℕ → List Stream → Type 0
Listed order n ss = (s : Stream) × Memᴰ s ss × (s.number ≡ n) × (is_torn order s ≡ true)

-- the list has the numbers of the torn streams, and no others
pub torn_listed : (order : List ℕ) (ss : List Stream) (n : ℕ) → Memᴰ n (torn_of order ss) ↔ Listed order n ss
unfolding torn_of
torn_listed order [] n = (λ p. absurd (Memᴰ.not-nil p), λ r. absurd (Memᴰ.not-nil r.1))
torn_listed order (s ∷ ss) n = (there (is_torn order s) refl (torn_listed order ss n).0, back (torn_listed order ss n).1)
  where
    there : (b : Bool) → is_torn order s ≡ b → (Memᴰ n (torn_of order ss) → Listed order n ss)
        → Memᴰ n (cond b (s.number ∷ torn_of order ss) (torn_of order ss)) → Listed order n (s ∷ ss)
    there true e rest p =
        ⊎_elim (λ q. (s, Memᴰ.head refl, sym q, e)) (λ q. let r = rest q in (r.0, Memᴰ.tail r.1, r.2, r.3)) (Memᴰ.cases_cons p)
    there false e rest p = let r = rest p in (r.0, Memᴰ.tail r.1, r.2, r.3)

    back : (Listed order n ss → Memᴰ n (torn_of order ss)) → Listed order n (s ∷ ss) → Memᴰ n (cond (is_torn order s) (s.number ∷ torn_of order ss) (torn_of order ss))
    back rest r = go (is_torn order s) refl (Memᴰ.cases_cons r.1)
      where
        go : (b : Bool) → is_torn order s ≡ b → (r.0 ≡ s) ⊎ Memᴰ r.0 ss → Memᴰ n (cond b (s.number ∷ torn_of order ss) (torn_of order ss))
        go true e (inl q) = Memᴰ.head (sym r.2 ∙ ap (λ (t : Stream). t.number) q)
        go false e (inl q) = absurd (true≢false (sym r.3 ∙ ap (is_torn order) q ∙ e))
        go true e (inr q) = Memᴰ.tail (rest (r.0, q, r.2, r.3))
        go false e (inr q) = rest (r.0, q, r.2, r.3)

-- it rises where the streams' numbers do
pub torn_rises : (order : List ℕ) (ss : List Stream) → Rises (map (λ (s : Stream). s.number) ss) → Rises (torn_of order ss)
unfolding torn_of
torn_rises order [] r = none
torn_rises order (s ∷ ss) (more above r) = go (is_torn order s) (torn_rises order ss r)
  where
    go : (b : Bool) → Rises (torn_of order ss) → Rises (cond b (s.number ∷ torn_of order ss) (torn_of order ss))
    go true q =
        more
        (λ m p.
        let t = (torn_listed order ss m).0 p in
        above m (Memᴰ.cast (sym t.2) (Memᴰ.map (λ (x : Stream). x.number) t.1)))
        q
    go false q = q

pub streams_rise : {us : List ℕ} {ss : List Stream} → Good us ss → Rises (map (λ (s : Stream). s.number) ss)
streams_rise {ss = ss} good =
    rises_at (map (λ (s : Stream). s.number) ss)
    (λ i j h k.
    omega (
      arith,
      get_or-map (λ (s : Stream). s.number) ss i no_stream,
      get_or-map (λ (s : Stream). s.number) ss j no_stream,
      rising (λ (x : ℕ). (get_or ss x no_stream).number) (length ss) good.streams i j h
          (omega (arith, length-map ss (λ (s : Stream). s.number))),
    ))

-- ---- at most one block tears a stream

abbrev hit : Bool → ℕ
hit true = 1
hit false = 0

length-torn : (order : List ℕ) (s : Stream) (ss : List Stream) → length (torn_of order (s ∷ ss)) ≡ hit (is_torn order s) + length (torn_of order ss)
unfolding torn_of
length-torn order s ss = go (is_torn order s)
  where
    go : (b : Bool) → length (cond b (s.number ∷ torn_of order ss) (torn_of order ss)) ≡ hit b + length (torn_of order ss)
    go true = omega arith
    go false = omega arith

-- how many of the orders tear the stream s
abbrev hits : List (List ℕ) → Stream → ℕ
hits [] s = 0
hits (o ∷ os) s = hit (is_torn o s) + hits os s

-- how many streams the orders tear
abbrev tears : List (List ℕ) → List Stream → ℕ
tears [] ss = 0
tears (o ∷ os) ss = length (torn_of o ss) + tears os ss

-- the orders one after another
abbrev joined : List (List ℕ) → List ℕ
joined [] = []
joined (o ∷ os) = o ++ joined os

tears_none : (os : List (List ℕ)) → tears os [] ≡ 0
unfolding torn_of
tears_none [] = refl
tears_none (o ∷ os) = omega (arith, tears_none os)

tears_more : (os : List (List ℕ)) (s : Stream) (ss : List Stream) → tears os (s ∷ ss) ≡ hits os s + tears os ss
tears_more [] s ss = refl
tears_more (o ∷ os) s ss = omega (arith, length-torn o s ss, tears_more os s ss)

hits_none : (os : List (List ℕ)) (s : Stream) → (Memᴰ s.source (joined os) → ⊥) → hits os s ≡ 0
hits_none [] s f = refl
hits_none (o ∷ os) s f = go (is_torn o s) refl (hits_none os s (λ p. f (Memᴰ.append_right o p)))
  where
    go : (b : Bool) → is_torn o s ≡ b → hits os s ≡ 0 → hit b + hits os s ≡ 0
    go true e r = absurd (f (Memᴰ.append_left (joined os) (torn_source o s e)))
    go false e r = omega arith

hits_most : (os : List (List ℕ)) (s : Stream) → Distinct (joined os) → hits os s ≤ 1
hits_most [] s d = omega arith
hits_most (o ∷ os) s d = go (is_torn o s) refl (hits_most os s (distinct_right o (joined os) d))
  where
    go : (b : Bool) → is_torn o s ≡ b → hits os s ≤ 1 → hit b + hits os s ≤ 1
    go true e r = omega (arith, hits_none os s (distinct_apart o (joined os) d s.source (torn_source o s e)))
    go false e r = omega arith

tears_most : (os : List (List ℕ)) (ss : List Stream) → Distinct (joined os) → tears os ss ≤ length ss
tears_most os [] d = omega (arith, tears_none os)
tears_most os (s ∷ ss) d = omega (arith, tears_more os s ss, hits_most os s d, tears_most os ss d)

table_tears : (ss : List Stream) (bs : List (List ℕ)) → length (torn_table (plans_of ss bs)) ≡ tears (map (λ (b : List ℕ). ordered_of b ss) bs) ss
unfolding block_plan
table_tears ss [] = refl
table_tears ss (b ∷ bs) =
    length-append (torn_of (ordered_of b ss) ss) (torn_table (plans_of ss bs)) ∙ omega (arith, table_tears ss bs)

table-joined : (ss : List Stream) (bs : List (List ℕ)) → order_table (plans_of ss bs) ≡ joined (map (λ (b : List ℕ). ordered_of b ss) bs)
unfolding block_plan
table-joined ss [] = refl
table-joined ss (b ∷ bs) = ap (λ (l : List ℕ). ordered_of b ss ++ l) (table-joined ss bs)

-- Blocks that have no unit in common tear each stream at most once.
pub torn_once : (ss : List Stream) (bs : List (List ℕ)) → Distinct (order_table (plans_of ss bs)) → length (torn_table (plans_of ss bs)) ≤ length ss
torn_once ss bs d =
    omega (
      arith,
      table_tears ss bs,
      tears_most (map (λ (b : List ℕ). ordered_of b ss) bs) ss (subst (λ (l : List ℕ). Distinct l) (table-joined ss bs) d),
    )

-- So any front part of the blocks tears at most as many streams as there are,
pub torn_front : {us : List ℕ} {ss : List Stream} → Good us ss → (front back : List (List ℕ)) → blocks_of us ss ≡ front ++ back
    → length (torn_table (plans_of ss front)) ≤ length ss
torn_front {us} {ss} good front back e = torn_once ss front (front_distinct good front back e)

-- and so does the whole plan.
pub torn_most : {us : List ℕ} {ss : List Stream} → Good us ss → length (torn_table (plan_of us ss)) ≤ length ss
unfolding plan_of
torn_most {us} {ss} good = torn_front good (blocks_of us ss) [] (sym (append-nil (blocks_of us ss)))
