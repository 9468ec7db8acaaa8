-- Reading refuses an image with a number exactly when the table gives that number, and accepts it exactly when the table gives none.
-- Every image is accepted or has a refusal (`decided`), and a refusal or an acceptance fixes the answer (`refusal_is`, `accepted_is`);
-- the rest follows from these two. Assumes nothing.
use mathlib.Core.Bool.{Bool, true, false, cond, ◌&&◌}
use mathlib.Core.List.{List}
use mathlib.Core.Logic.{◌⊎◌, inl, inr, ⊎_elim}
use mathlib.Core.Path.{◌≡◌, refl, sym, ap, ◌∙◌, subst}
use Prim.Native.Nat.{ℕ, zero, suc, ◌≤◌, ◌<◌}
use native.Mathlib.Omega.{arith}
use borrow.Author.Tests.{lt-ltb, le-ltb, le-leb, lt-leb, eq-eqb, ne_eqb, eqb-true, leb-true, ltb-true}
use lib.Dec.{eqb, leb, ltb}
use lib.ListN.{length, get_or}
use Rattle.std.proofs.Math.Bool.{and-false}
use Rattle.std.proofs.lemmas.Bool.{and_parts, cases_eq, cases_lt}
use Rattle.words.specs.Words.{number_at}
use Rattle.flowsheet.specs.Exactly.{SpareZero, LaidOut, GoodHeader, HeaderRefusal, short, edition, spare, counts, layout, Numbered, Known, Sound, Fault, end, outside, weight, stream_in, stream_number_in, GoodStream, StreamRefusal, number, fault, Refusal, header, unit, stream, Accepted}
use Rattle.flowsheet.specs.Image.{before, edition_of, spare_of, unit_count, stream_count, laid_out, header_number, unit_at, unit_number_at, units_number, stream_number, stream_number_at, unit_list, answer_of}
use Rattle.flowsheet.specs.Sheet.{place_of, number_fault, known_end, weight_fault, stream_fault}
use Rattle.std.specs.Prelude.{Some, None, is_some}
use Rattle.flowsheet.specs.declared.Stream.{Stream}
use Rattle.flowsheet.proofs.First.{first_none, first_given, first-all, first_at, search_first}
use Rattle.flowsheet.proofs.Places.{place_found, place_nowhere, place_cases}

-- ---- the header

pub spare_zero : (l : List ℕ) → spare_of l ≡ 0 → SpareZero l
unfolding number_at
spare_zero l e i h k = ⊎_elim (at 12 (omega arith)) (λ a. ⊎_elim (at 13 (omega arith)) (λ b. ⊎_elim (at 14 (omega arith)) (λ c. at 15 (omega arith) (omega arith)) (cases_eq i 14)) (cases_eq i 13)) (cases_eq i 12)
  where
    at : (j : ℕ) → get_or l j 0 ≡ 0 → i ≡ j → get_or l i 0 ≡ 0
    at j z p = ap (λ (x : ℕ). get_or l x 0) p ∙ z

pub spare_is : (l : List ℕ) → SpareZero l → spare_of l ≡ 0
unfolding number_at
spare_is l f =
    omega
    (arith, f 12 (omega arith) (omega arith), f 13 (omega arith) (omega arith), f 14 (omega arith) (omega arith), f 15 (omega arith) (omega arith))

module _ (l : List ℕ) where
  laid_is : LaidOut l → laid_out l (unit_count l) (stream_count l) ≡ true
  unfolding laid_out
  laid_is g = rw (eq-eqb _ _ g.units_at, eq-eqb _ _ g.streams_at, eq-eqb _ _ g.total, eq-eqb _ _ g.lent)

  laid_of : laid_out l (unit_count l) (stream_count l) ≡ true → LaidOut l
  unfolding laid_out
  laid_of e =
      let a = and_parts _ _ e in
      let b = and_parts _ _ a.1 in
      let c = and_parts _ _ b.1 in
      record {
        units_at = eqb-true _ _ a.0;
        streams_at = eqb-true _ _ b.0;
        total = eqb-true _ _ c.0;
        lent = eqb-true _ _ c.1;
      }

  laid_not : (LaidOut l → ⊥) → laid_out l (unit_count l) (stream_count l) ≡ false
  laid_not f = go (laid_out l (unit_count l) (stream_count l)) refl
    where
      go : (t : Bool) → laid_out l (unit_count l) (stream_count l) ≡ t → laid_out l (unit_count l) (stream_count l) ≡ false
      go true e = absurd (f (laid_of e))
      go false e = e

  pub good_header_is : GoodHeader l → header_number l ≡ 0
  unfolding header_number
  good_header_is g =
      simp
      (le-ltb _ _ g.long, eq-eqb _ _ g.edition, eq-eqb _ _ (spare_is l g.spare), le-leb _ _ g.units, le-leb _ _ g.streams, laid_is g.layout)

  header_refusal_is : {n : ℕ} → HeaderRefusal l n → header_number l ≡ n
  unfolding header_number
  header_refusal_is (short h) = simp (lt-ltb _ _ h)
  header_refusal_is (edition h f) = simp (le-ltb _ _ h, ne_eqb _ _ f)
  header_refusal_is (spare h e f) = simp (le-ltb _ _ h, eq-eqb _ _ e, ne_eqb (spare_of l) 0 (λ z. f (spare_zero l z)))
  header_refusal_is (counts h e s (inl u)) = simp (le-ltb _ _ h, eq-eqb _ _ e, eq-eqb _ _ (spare_is l s), lt-leb _ _ u)
  header_refusal_is (counts h e s (inr u)) = simp (le-ltb _ _ h, eq-eqb _ _ e, eq-eqb _ _ (spare_is l s), lt-leb _ _ u, and-false)
  header_refusal_is (layout h e s u v f) =
      simp (le-ltb _ _ h, eq-eqb _ _ e, eq-eqb _ _ (spare_is l s), le-leb _ _ u, le-leb _ _ v, laid_not f)

  header_decided : GoodHeader l ⊎ ((n : ℕ) × HeaderRefusal l (suc n))
  header_decided = ⊎_elim (λ h. inr (0, short h)) long (cases_lt (length l) 16)
    where
      laid : 16 ≤ length l → edition_of l ≡ 1 → spare_of l ≡ 0 → unit_count l ≤ 64 → stream_count l ≤ 256
          → (t : Bool) → laid_out l (unit_count l) (stream_count l) ≡ t → GoodHeader l ⊎ ((n : ℕ) × HeaderRefusal l (suc n))
      laid h e s u v true k =
          inl (record { long = h; edition = e; spare = spare_zero l s; units = u; streams = v; layout = laid_of k })
      laid h e s u v false k =
          inr (4, layout h e (spare_zero l s) u v (λ g. let z : true ≡ false = sym (laid_is g) ∙ k in let y : ◌≡◌ {A = ℕ} 0 1 = cc in omega arith))

      counted : 16 ≤ length l → edition_of l ≡ 1 → spare_of l ≡ 0 → GoodHeader l ⊎ ((n : ℕ) × HeaderRefusal l (suc n))
      counted h e s =
          ⊎_elim
          (λ (u : 64 < unit_count l). inr (3, counts h e (spare_zero l s) (inl u)))
          (λ (u : unit_count l ≤ 64).
          ⊎_elim
          (λ (v : 256 < stream_count l). inr (3, counts h e (spare_zero l s) (inr v)))
          (λ (v : stream_count l ≤ 256). laid h e s u v _ refl)
          (cases_lt 256 (stream_count l)))
          (cases_lt 64 (unit_count l))

      long : 16 ≤ length l → GoodHeader l ⊎ ((n : ℕ) × HeaderRefusal l (suc n))
      long h =
          ⊎_elim
          (λ e. ⊎_elim (λ s. counted h e s) (λ f. inr (2, spare h e (λ z. f (spare_is l z)))) (cases_eq (spare_of l) 0))
          (λ f. inr (1, edition h f))
          (cases_eq (edition_of l) 1)

  pub header_good : header_number l ≡ 0 → GoodHeader l
  header_good e =
      ⊎_elim (λ g. g) (λ r. absurd (omega (arith, header_refusal_is r.1))) header_decided

-- ---- numbers of a table

module _ (f : ℕ → ℕ) where
  before_lt : (i : ℕ) → Numbered f i → before f i < f i
  before_lt zero g = omega (arith, g.low)
  before_lt (suc j) g = g.rising j refl

  numbered_is : (i k : ℕ) → Numbered f i → number_fault (f i) (before f i) k ≡ 0
  unfolding number_fault
  numbered_is i k g = simp (le-leb _ _ g.low, le-leb _ _ g.high, lt-ltb _ _ (before_lt i g))

  numbered : (i : ℕ) → 1 ≤ f i → f i ≤ 9999 → before f i < f i → Numbered f i
  numbered i a b c = record { low = a; high = b; rising = λ j e. rw e (rw e at c) }

  dec_numbered : (i : ℕ) → Numbered f i ⊎ (Numbered f i → ⊥)
  dec_numbered i =
      ⊎_elim
      (λ (h : f i < 1). inr (λ (g : Numbered f i). omega (arith, g.low)))
      (λ (a : 1 ≤ f i).
      ⊎_elim
      (λ (h : 9999 < f i). inr (λ (g : Numbered f i). omega (arith, g.high)))
      (λ (b : f i ≤ 9999).
      ⊎_elim
      (λ (c : before f i < f i). inl (numbered i a b c))
      (λ (h : f i ≤ before f i). inr (λ (g : Numbered f i). omega (arith, before_lt i g)))
      (cases_lt (before f i) (f i)))
      (cases_lt 9999 (f i)))
      (cases_lt (f i) 1)

  numbered_not : (i k : ℕ) → (Numbered f i → ⊥) → number_fault (f i) (before f i) k ≡ k
  unfolding number_fault
  numbered_not i k n = go (leb 1 (f i) && (leb (f i) 9999 && ltb (before f i) (f i))) refl
    where
      go : (t : Bool) → (leb 1 (f i) && (leb (f i) 9999 && ltb (before f i) (f i))) ≡ t
          → cond (leb 1 (f i) && (leb (f i) 9999 && ltb (before f i) (f i))) 0 k ≡ k
      go true e =
          let a = and_parts _ _ e in
          let b = and_parts _ _ a.1 in
          absurd (n (numbered i (leb-true _ _ a.0) (leb-true _ _ b.0) (ltb-true _ _ b.1)))
      go false e = rw e

-- ---- a stream's ends and weight

module _ (us : List ℕ) where
  known_is : (e : ℕ) → Known us e → known_end us e ≡ true
  unfolding known_end
  known_is e (inl z) = rw (eq-eqb e 0 z)
  known_is e (inr k) = ⊎_elim (λ z. rw (eq-eqb e 0 z)) (λ f. rw (ne_eqb e 0 f) (⊎_elim here (λ n. absurd (place_nowhere us e n k.0 k.1 k.2)) (place_cases us e))) (cases_eq e 0)
    where
      here : ((i : ℕ) × (place_of us e ≡ Some i)) → is_some (place_of us e) ≡ true
      here p = rw p.1

  known_not : (e : ℕ) → (Known us e → ⊥) → known_end us e ≡ false
  unfolding known_end
  known_not e f =
      rw (ne_eqb e 0 (λ z. f (inl z)))
      (⊎_elim
      (λ p. absurd (f (inr (p.0, (place_found us e p.0 p.1).0, (place_found us e p.0 p.1).1))))
      (λ (n : place_of us e ≡ None). rw n)
      (place_cases us e))

  dec_known : (e : ℕ) → Known us e ⊎ (Known us e → ⊥)
  dec_known e =
      ⊎_elim
      (λ z. inl (inl z))
      (λ f.
      ⊎_elim
      (λ p. inl (inr (p.0, (place_found us e p.0 p.1).0, (place_found us e p.0 p.1).1)))
      (λ n. inr (λ k. ⊎_elim f (λ k. place_nowhere us e n k.0 k.1 k.2) k))
      (place_cases us e))
      (cases_eq e 0)

  module _ (s : Stream) where
    both_not : (s.source ≡ 0 → s.receiver ≡ 0 → ⊥) → (eqb s.source 0 && eqb s.receiver 0) ≡ false
    both_not f =
        ⊎_elim
        (λ a. rw (eq-eqb s.source 0 a) (ne_eqb s.receiver 0 (f a)))
        (λ (n : s.source ≡ 0 → ⊥). rw (ne_eqb s.source 0 n))
        (cases_eq s.source 0)

    pub sound_is : Sound us s → stream_fault us s ≡ 0
    unfolding stream_fault weight_fault
    sound_is g =
        simp
        (known_is s.source g.source, known_is s.receiver g.receiver, both_not g.inside, le-leb _ _ g.light, le-leb _ _ g.heavy)

    fault_is : {n : ℕ} → Fault us s n → stream_fault us s ≡ n
    unfolding stream_fault weight_fault
    fault_is (end (inl f)) = rw (known_not s.source f)
    fault_is (end (inr f)) =
        ⊎_elim (λ k. simp (known_is s.source k, known_not s.receiver f)) (λ (n : Known us s.source → ⊥). rw (known_not s.source n)) (dec_known s.source)
    fault_is (outside a b) =
        simp (known_is s.source (inl a), known_is s.receiver (inl b), eq-eqb _ _ a, eq-eqb _ _ b)
    fault_is (weight a b f (inl h)) =
        simp (known_is s.source a, known_is s.receiver b, both_not f, lt-leb _ _ h)
    fault_is (weight a b f (inr h)) =
        simp (known_is s.source a, known_is s.receiver b, both_not f, lt-leb _ _ h, and-false)

    dec_sound : Sound us s ⊎ ((n : ℕ) × Fault us s (suc n))
    dec_sound =
        ⊎_elim
        (λ a. ⊎_elim (λ b. ends a b) (λ f. inr (7, end (inr f))) (dec_known s.receiver))
        (λ f. inr (7, end (inl f)))
        (dec_known s.source)
      where
        weighed : Known us s.source → Known us s.receiver → (s.source ≡ 0 → s.receiver ≡ 0 → ⊥)
            → Sound us s ⊎ ((n : ℕ) × Fault us s (suc n))
        weighed a b f =
            ⊎_elim
            (λ (h : s.weight < 1). inr (9, weight a b f (inl h)))
            (λ (l : 1 ≤ s.weight).
            ⊎_elim
            (λ (h : 1000 < s.weight). inr (9, weight a b f (inr h)))
            (λ (m : s.weight ≤ 1000). inl (record { source = a; receiver = b; inside = f; light = l; heavy = m }))
            (cases_lt 1000 s.weight))
            (cases_lt s.weight 1)

        ends : Known us s.source → Known us s.receiver → Sound us s ⊎ ((n : ℕ) × Fault us s (suc n))
        ends a b =
            ⊎_elim
            (λ p. ⊎_elim (λ q. inr (8, outside p q)) (λ f. weighed a b (λ x y. f y)) (cases_eq s.receiver 0))
            (λ f. weighed a b (λ x y. f x))
            (cases_eq s.source 0)

    pub sound_of : stream_fault us s ≡ 0 → Sound us s
    sound_of e = ⊎_elim (λ g. g) (λ r. absurd (omega (arith, e, fault_is r.1))) dec_sound

-- ---- the records of an image, and the whole

module _ (l : List ℕ) where
  unit_is : (i : ℕ) → Numbered (unit_at l) i → unit_number_at l i ≡ 0
  unfolding unit_number_at
  unit_is i g = numbered_is (unit_at l) i 6 g

  unit_not : (i : ℕ) → (Numbered (unit_at l) i → ⊥) → unit_number_at l i ≡ 6
  unfolding unit_number_at
  unit_not i f = numbered_not (unit_at l) i 6 f

  abbrev stream_fault_at : ℕ → ℕ
  stream_fault_at i = stream_number_at l (unit_count l) (unit_list l) i

  stream_is : (i : ℕ) → GoodStream l i → stream_fault_at i ≡ 0
  unfolding stream_number_at stream_number
  stream_is i g =
      first_none _ _ (numbered_is (stream_number_in l) i 7 g.numbered) ∙ sound_is (unit_list l) (stream_in l i) g.sound

  stream_refusal_is : {n : ℕ} (i : ℕ) → StreamRefusal l i n → stream_fault_at i ≡ n
  unfolding stream_number_at stream_number
  stream_refusal_is i (number f) =
      let e = numbered_not (stream_number_in l) i 7 f in
      first_given _ _ (λ z. omega (arith, e, z)) ∙ e
  stream_refusal_is i (fault g r) =
      first_none _ _ (numbered_is (stream_number_in l) i 7 g) ∙ fault_is (unit_list l) (stream_in l i) r

  dec_stream : (i : ℕ) → GoodStream l i ⊎ ((n : ℕ) × StreamRefusal l i (suc n))
  dec_stream i =
      ⊎_elim
      (λ g.
      ⊎_elim
      (λ s. inl (record { numbered = g; sound = s }))
      (λ r. inr (r.0, fault g r.1))
      (dec_sound (unit_list l) (stream_in l i)))
      (λ f. inr (6, number f))
      (dec_numbered (stream_number_in l) i)

  units_good : ((i : ℕ) → i < unit_count l → Numbered (unit_at l) i) → units_number l (unit_count l) ≡ 0
  units_good g = first-all (unit_number_at l) 0 (unit_count l) (λ j p q. unit_is j (g j (omega arith)))

  -- some unit is refused: so is the first of those, under the same number
  units_bad : (i : ℕ) → i < unit_count l → (Numbered (unit_at l) i → ⊥) → units_number l (unit_count l) ≡ 6
  units_bad i h f =
      ⊎_elim
      (λ g. absurd (f (g i h)))
      (λ r.
      let e = unit_not r.0 r.3 in
      first_at (unit_number_at l) 0 (unit_count l) r.0 (omega arith) (omega (arith, r.1)) (λ j p q. unit_is j (r.2 j q)) (λ z. omega (arith, e, z))
      ∙ e)
      (search_first (Numbered (unit_at l)) (λ (j : ℕ). Numbered (unit_at l) j → ⊥) (dec_numbered (unit_at l)) (unit_count l))

  -- an acceptance and a refusal fix the answer
  pub accepted_is : Accepted l → answer_of l ≡ 0
  unfolding answer_of
  accepted_is g =
      first_none _ _ (good_header_is l g.header)
      ∙ first_none _ _ (units_good g.units)
      ∙ first-all stream_fault_at 0 (stream_count l) (λ j p q. stream_is j (g.streams j (omega arith)))

  header_some : {n : ℕ} → HeaderRefusal l n → n ≡ 0 → ⊥
  header_some (short h) e = omega arith
  header_some _ e = omega arith

  fault_some : {us : List ℕ} {s : Stream} {n : ℕ} → Fault us s n → n ≡ 0 → ⊥
  fault_some (end f) e = omega arith
  fault_some _ e = omega arith

  stream_some : {i n : ℕ} → StreamRefusal l i n → n ≡ 0 → ⊥
  stream_some (number f) e = omega arith
  stream_some (fault g r) e = fault_some r e

  refusal_some : {n : ℕ} → Refusal l n → n ≡ 0 → ⊥
  refusal_some (header r) e = header_some r e
  refusal_some (unit g i h f) e = omega arith
  refusal_some (stream g u i h s r) e = stream_some r e

  pub refusal_is : {n : ℕ} → Refusal l n → answer_of l ≡ n
  unfolding answer_of
  refusal_is (header r) =
      let e = header_refusal_is l r in
      first_given _ _ (λ z. header_some r (sym e ∙ z)) ∙ e
  refusal_is (unit g i h f) =
      let e = units_bad i h f in
      first_none _ _ (good_header_is l g) ∙ first_given _ _ (λ z. omega (arith, e, z)) ∙ e
  refusal_is (stream g u i h s r) =
      let e = stream_refusal_is i r in
      first_none _ _ (good_header_is l g)
      ∙ first_none _ _ (units_good u)
      ∙ first_at stream_fault_at 0 (stream_count l) i (omega arith) (omega arith) (λ j p q. stream_is j (s j q)) (λ z. stream_some r (sym e ∙ z))
      ∙ e

  -- every image is accepted or has a refusal
  pub decided : Accepted l ⊎ ((n : ℕ) × Refusal l (suc n))
  decided = ⊎_elim headed (λ r. inr (r.0, header r.1)) (header_decided l)
    where
      streamed : GoodHeader l → ((i : ℕ) → i < unit_count l → Numbered (unit_at l) i) → Accepted l ⊎ ((n : ℕ) × Refusal l (suc n))
      streamed g u =
          ⊎_elim
          (λ s. inl (record { header = g; units = u; streams = s }))
          (λ r. inr (r.3.0, stream g u r.0 r.1 r.2 r.3.1))
          (search_first (GoodStream l) (λ (i : ℕ). (n : ℕ) × StreamRefusal l i (suc n)) dec_stream (stream_count l))

      headed : GoodHeader l → Accepted l ⊎ ((n : ℕ) × Refusal l (suc n))
      headed g =
          ⊎_elim
          (streamed g)
          (λ r. inr (5, unit g r.0 r.1 r.3))
          (search_first (Numbered (unit_at l)) (λ (i : ℕ). Numbered (unit_at l) i → ⊥) (dec_numbered (unit_at l)) (unit_count l))

  -- "given exactly when": the other way round
  pub is_accepted : answer_of l ≡ 0 → Accepted l
  is_accepted e = ⊎_elim (λ g. g) (λ r. absurd (omega (arith, e, refusal_is r.1))) decided

  pub is_refusal : {n : ℕ} → answer_of l ≡ n → (n ≡ 0 → ⊥) → Refusal l n
  is_refusal {n} e f =
      ⊎_elim
      (λ g. absurd (f (sym e ∙ accepted_is g)))
      (λ r. subst (Refusal l) (sym (refusal_is r.1) ∙ e) r.1)
      decided

  -- exactly one number: two refusals of one image are the same, and an accepted image has none
  pub one_refusal : {m n : ℕ} → Refusal l m → Refusal l n → m ≡ n
  one_refusal r s = sym (refusal_is r) ∙ refusal_is s

  pub accepted_not_refused : {n : ℕ} → Accepted l → Refusal l n → ⊥
  accepted_not_refused g r = refusal_some r (sym (refusal_is r) ∙ accepted_is g)
