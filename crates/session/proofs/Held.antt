-- The sessions that calls could have left. A test tells exactly whether a session is one; opening an image gives one, and each of them is had so;
-- and what is known of an edit of one that is accepted, or refused. Assumes nothing.
use Rattle.std.proofs.Common.{Bool, true, false, true≢false, cond, not, ◌&&◌, ◌≡◌, ℕ, zero, suc, ◌≤◌, eqb, ltb, leb, List, [], ◌∷◌, map, length, refl, sym, ap, subst, ◌∙◌, arith}
use borrow.Author.Tests.{le-leb, leb-true}
use mathlib.Core.Logic.{◌↔◌}
use Rattle.std.specs.Cmp.Lexicographic.{pointwise, bytes_decides}
use Rattle.std.specs.Prelude.{nat_eq, is_some}
use Rattle.flowsheet.specs.Good.{GoodSheet, is_good}
use Rattle.flowsheet.specs.Image.{first, unit_list, stream_list, answer_of}
use Rattle.flowsheet.specs.Sheet.{sheet_of, place_of, known_end, weight_fault, stream_fault}
use Rattle.flowsheet.specs.Written.{image_of}
use Rattle.flowsheet.specs.declared.Flowsheet.{Flowsheet}
use Rattle.flowsheet.specs.declared.Stream.{Stream}
use Rattle.std.proofs.lemmas.Bool.{and_parts, not-true}
use Rattle.flowsheet.proofs.Exact.{is_accepted}
use Rattle.flowsheet.proofs.Good.{accepted_good, good_exact}
use Rattle.flowsheet.proofs.ReadBack.{image_read}
use Rattle.planner.specs.Answer.{plan_number, planned_of, planned_from, planned_image, work_after}
use Rattle.planner.specs.Plan.{any_over, too_large, plan_of, block_plan, blocks_of}
use Rattle.planner.specs.declared.Plan.{Plan}
use Rattle.planner.proofs.Answers.{zero_told}
use Rattle.planner.proofs.Kept.{plan_none}
use Rattle.session.specs.Answer.{Made, kept_or, large_number, edit_number, made_of, Editing, opened_of, Opening}
use Rattle.session.specs.Edited.{stream_place, edited}
use Rattle.session.specs.Refused.{add_fault, touched, fault_of}
use Rattle.session.specs.Session.{plan_for, session_of, Held, same_plan, is_held}
use Rattle.session.specs.declared.Edit.{Edit}
use Rattle.session.specs.declared.Edit.TheVariants.{AddUnit, RemoveUnit, AddStream, RemoveStream, SetWeight}
use Rattle.session.specs.declared.Session.{Session}

-- ---- the test

-- the test of two plans tells whether they are one
pub same_plan_is : (p q : Plan) → (same_plan p q ≡ true) ↔ (p ≡ q)
same_plan_is p q = (one, both)
  where
    one : same_plan p q ≡ true → p ≡ q
    one e =
        let blocks = and_parts (pointwise nat_eq p.blocks q.blocks) _ e in
        let tables = and_parts (pointwise nat_eq p.order q.order) _ blocks.1 in
        let b = (bytes_decides p.blocks q.blocks).0 blocks.0 in
        let o = (bytes_decides p.order q.order).0 tables.0 in
        let t = (bytes_decides p.torn q.torn).0 tables.1 in
        λ i. record { blocks = b i; order = o i; torn = t i }

    both : p ≡ q → same_plan p q ≡ true
    both e =
        rw (
          (bytes_decides p.blocks q.blocks).1 (ap (λ (x : Plan). x.blocks) e),
          (bytes_decides p.order q.order).1 (ap (λ (x : Plan). x.order) e),
          (bytes_decides p.torn q.torn).1 (ap (λ (x : Plan). x.torn) e),
        )

-- The test of a session tells exactly whether calls could have left it.
pub held_exact : (s : Session) → (is_held s ≡ true) ↔ Held s
unfolding is_held
held_exact s = (holds, tested)
  where
    us : List ℕ
    us = s.sheet.units

    ss : List Stream
    ss = s.sheet.streams

    holds : is_held s ≡ true → Held s
    holds e =
        let tables = and_parts (is_good us ss) _ e in
        let units = and_parts (leb (length us) 64) _ tables.1 in
        let streams = and_parts (leb (length ss) 256) _ units.1 in
        let plan = and_parts (not (too_large us ss)) _ streams.1 in
        record {
          good = (good_exact us ss (leb-true (length us) 64 units.0) (leb-true (length ss) 256 streams.0)).0 tables.0;
          small = not-true (too_large us ss) plan.0;
          plan = (same_plan_is s.plan (plan_for s.sheet)).0 plan.1;
        }

    tested : Held s → is_held s ≡ true
    tested h =
        rw (
          (good_exact us ss h.good.few_units h.good.few_streams).1 h.good,
          le-leb (length us) 64 h.good.few_units,
          le-leb (length ss) 256 h.good.few_streams,
          h.small,
          (same_plan_is s.plan (plan_for s.sheet)).1 h.plan,
        )

-- and what calls could have left passes it
pub held_tested : (s : Session) → Held s → is_held s ≡ true
held_tested s h = (held_exact s).1 h

-- ---- the session of a flowsheet

-- A good flowsheet with no block over 12 units, with its plan, is a session that calls could have left.
pub session_held : (f : Flowsheet) → GoodSheet f → too_large f.units f.streams ≡ false → Held (session_of f)
unfolding session_of
session_held f good small = record { good = good; small = small; plan = refl }

-- A session that calls could have left is that of its flowsheet.
pub held_is : {s : Session} → Held s → s ≡ session_of s.sheet
unfolding session_of
held_is {s} h i = record { sheet = s.sheet; plan = h.plan i }

-- The empty session is one that calls could have left.
pub empty_held : Held (session_of (sheet_of [] []))
unfolding sheet_of too_large plan_of
empty_held =
    session_held (sheet_of [] [])
    (record {
      few_units = omega arith;
      few_streams = omega arith;
      units = λ i h. absurd (omega arith);
      streams = λ i h. absurd (omega arith);
      sound = λ i h. absurd (omega arith);
    })
    (none_large (blocks_of [] []) plan_none)
  where
    -- no plan, no blocks
    none_large : (bs : List (List ℕ)) → map (λ (b : List ℕ). block_plan b []) bs ≡ [] → any_over bs ≡ false
    none_large [] e = refl
    none_large (b ∷ bs) e = cc

-- ---- what is kept

module _ (new old : Session) where
  kept_number : (k : ℕ) → (kept_or k new old).number ≡ k
  kept_number zero = refl
  kept_number (suc k) = refl

  -- where nothing is refused, the new session
  kept_new : (k : ℕ) → 0 ≡ (kept_or k new old).number → (k ≡ 0) × ((kept_or k new old).session ≡ new)
  kept_new zero e = (refl, refl)
  kept_new (suc k) e = absurd (omega arith)

  -- and else the one that stood
  kept_old : (k j : ℕ) → suc j ≡ (kept_or k new old).number → (kept_or k new old).session ≡ old
  kept_old zero j e = absurd (omega arith)
  kept_old (suc k) j e = refl

-- ---- opening an image

-- what is known of an image from which a plan could be made
record Plannable (image : List ℕ) (room : ℕ) : Type 0 where
  read : answer_of image ≡ 0
  small : too_large (unit_list image) (stream_list image) ≡ false
  memory : 65536 ≤ room

plannable : (image : List ℕ) (room : ℕ) → (planned_image image room).number ≡ 0 → Plannable image room
unfolding planned_image
plannable image room e = go (answer_of image) refl e
  where
    go : (k : ℕ) → answer_of image ≡ k → (planned_from k image room).number ≡ 0 → Plannable image room
    go zero a e =
        let p = zero_told (unit_list image) (stream_list image) room e in
        record { read = a; small = p.0; memory = p.1 }
    go (suc k) a e = absurd (omega arith)

plannable_zero : (image : List ℕ) (room : ℕ) → Plannable image room → (planned_image image room).number ≡ 0
unfolding planned_image planned_of plan_number
plannable_zero image room p = rw (p.read, p.small, le-leb 65536 room p.memory)

-- the session of an image
abbrev pub session_in : List ℕ → Session
session_in image = session_of (sheet_of (unit_list image) (stream_list image))

-- An opening that isn't refused gives the image's session.
pub opening_is : {s t : Session} {image work work' : List ℕ} → Opening s image work 0 t work' → t ≡ session_in image
unfolding opened_of
opening_is {s} {image = image} {work = work} o =
    o.session ∙ (kept_new (session_in image) s (planned_image image (length work)).number o.number).1

-- It is one that calls could have left.
pub opening_held : {s t : Session} {image work work' : List ℕ} → Opening s image work 0 t work' → Held t
unfolding opened_of sheet_of
opening_held {s} {image = image} {work = work} o =
    let p =
    plannable image (length work) (kept_new (session_in image) s (planned_image image (length work)).number o.number).0 in
    subst Held (sym (opening_is o))
    (session_held (sheet_of (unit_list image) (stream_list image)) (accepted_good image (is_accepted image p.read)) p.small)

-- A refused opening leaves the session that was handed in.
pub opening_refused : {s t : Session} {image work work' : List ℕ} {k : ℕ} → Opening s image work (suc k) t work' → t ≡ s
unfolding opened_of
opening_refused {s} {image = image} {work = work} {k = k} o =
    o.session ∙ kept_old (session_in image) s (planned_image image (length work)).number k o.number

-- Every session that calls could have left is had by opening the image of its flowsheet, with enough memory, whatever session is handed in.
pub by_opening : {s : Session} → Held s → (t : Session) (work : List ℕ) → 65536 ≤ length work
    → Opening t (image_of s.sheet.units s.sheet.streams) work 0 s (work_after work)
unfolding opened_of sheet_of
by_opening {s} h t work long =
    let image = image_of s.sheet.units s.sheet.streams in
    let read = image_read s.sheet.units s.sheet.streams h.good in
    let zero_is : (planned_image image (length work)).number ≡ 0 =
    plannable_zero image (length work)
    (record { read = read.0; small = rw (read.1, read.2) h.small; memory = long }) in
    let made : opened_of t image (length work) ≡ record { number = 0; session = s } =
    rw (zero_is, read.1, read.2) (ap (λ (x : Session). record { number = 0; session = x }) (sym (held_is h))) in
    record {
      number = sym (ap (λ (m : Made). m.number) made);
      session = sym (ap (λ (m : Made). m.session) made);
      memory = refl;
    }

-- ---- one edit

-- what is known of an edit that isn't refused
pub record Accepted (e : Edit) (s : Session) : Type 0 where
  pub held : is_held s ≡ true
  pub fault : fault_of e s.sheet ≡ 0
  pub small : too_large (edited e s.sheet).units (edited e s.sheet).streams ≡ false

pub large_some : (e : Edit) → large_number e ≡ 0 → ⊥
large_some (AddUnit n) h = omega arith
large_some (RemoveUnit n) h = omega arith
large_some (AddStream s) h = omega arith
large_some (RemoveStream n) h = omega arith
large_some (SetWeight n w) h = omega arith

-- the number of an edit by its tests
abbrev given : Bool → Bool → ℕ → Bool → ℕ → ℕ
given long held fault large number = cond long (cond held (first fault (cond large number 0)) 26) 12

accepted : (e : Edit) (s : Session) (room : ℕ) → edit_number e s room ≡ 0 → Accepted e s
unfolding edit_number
accepted e s room z =
    go (leb 65536 room) (is_held s) (fault_of e s.sheet) (too_large (edited e s.sheet).units (edited e s.sheet).streams) refl refl refl z
  where
    go : (long held : Bool) (fault : ℕ) (large : Bool) → is_held s ≡ held → fault_of e s.sheet ≡ fault
        → too_large (edited e s.sheet).units (edited e s.sheet).streams ≡ large → given long held fault large (large_number e) ≡ 0
        → Accepted e s
    go true true zero false h f l z = record { held = h; fault = f; small = l }
    go true true zero true h f l z = absurd (large_some e z)
    go true true (suc k) large h f l z = absurd (omega arith)
    go true false fault large h f l z = absurd (omega arith)
    go false held fault large h f l z = absurd (omega arith)

-- An edit that isn't refused gives the session of the edited flowsheet.
pub editing_accepted : {e : Edit} {s t : Session} {work work' : List ℕ} → Editing e s work 0 t work' → Accepted e s
unfolding made_of
editing_accepted {e} {s} {work = work} x =
    accepted e s (length work) (kept_new (session_of (edited e s.sheet)) s (edit_number e s (length work)) x.number).0

pub editing_is : {e : Edit} {s t : Session} {work work' : List ℕ} → Editing e s work 0 t work' → t ≡ session_of (edited e s.sheet)
unfolding made_of
editing_is {e} {s} {work = work} x =
    x.session ∙ (kept_new (session_of (edited e s.sheet)) s (edit_number e s (length work)) x.number).1

-- A refused edit leaves the session as it stood.
pub editing_refused : {e : Edit} {s t : Session} {work work' : List ℕ} {k : ℕ} → Editing e s work (suc k) t work' → t ≡ s
unfolding made_of
editing_refused {e} {s} {work = work} {k = k} x =
    x.session ∙ kept_old (session_of (edited e s.sheet)) s (edit_number e s (length work)) k x.number

-- ---- 26

cond_most : (b : Bool) (x y n : ℕ) → x ≤ n → y ≤ n → cond b x y ≤ n
cond_most true x y n h k = h
cond_most false x y n h k = k

first_most : (x y n : ℕ) → x ≤ n → y ≤ n → first x y ≤ n
first_most zero y n h k = k
first_most (suc x) y n h k = h

weight_most : (w : ℕ) → weight_fault w ≤ 24
unfolding weight_fault
weight_most w = cond_most (leb 1 w && leb w 1000) 0 10 24 (omega arith) (omega arith)

stream_most : (us : List ℕ) (s : Stream) → stream_fault us s ≤ 24
unfolding stream_fault
stream_most us s =
    cond_most (known_end us s.source) _ 8 24
    (cond_most (known_end us s.receiver) _ 8 24
    (cond_most (eqb s.source 0 && eqb s.receiver 0) 9 (weight_fault s.weight) 24 (omega arith) (weight_most s.weight))
    (omega arith))
    (omega arith)

add_most : (n : ℕ) (held : Bool) (count most : ℕ) → add_fault n held count most ≤ 24
unfolding add_fault
add_most n held count most =
    cond_most (leb 1 n && leb n 9999) _ 20 24
    (cond_most held 21 _ 24 (omega arith) (cond_most (ltb count most) 0 22 24 (omega arith) (omega arith)))
    (omega arith)

-- no edit is refused with a number above 24 for the flowsheet's sake
fault_most : (e : Edit) (f : Flowsheet) → fault_of e f ≤ 24
unfolding fault_of
fault_most (AddUnit n) f = add_most n (is_some (place_of f.units n)) (length f.units) 64
fault_most (RemoveUnit n) f =
    cond_most (is_some (place_of f.units n)) _ 23 24 (cond_most (touched f.streams n) 24 0 24 (omega arith) (omega arith)) (omega arith)
fault_most (AddStream s) f =
    first_most _ _ 24 (add_most s.number (is_some (stream_place f.streams s.number)) (length f.streams) 256) (stream_most f.units s)
fault_most (RemoveStream n) f = cond_most (is_some (stream_place f.streams n)) 0 23 24 (omega arith) (omega arith)
fault_most (SetWeight n w) f = cond_most (is_some (stream_place f.streams n)) _ 23 24 (weight_most w) (omega arith)

large_most : (e : Edit) → large_number e ≤ 25
large_most (AddUnit n) = omega arith
large_most (RemoveUnit n) = omega arith
large_most (AddStream s) = omega arith
large_most (RemoveStream n) = omega arith
large_most (SetWeight n w) = omega arith

-- nor does a session that passes the test have a number above 25
tested_most : (e : Edit) (s : Session) → first (fault_of e s.sheet) (cond (too_large (edited e s.sheet).units (edited e s.sheet).streams) (large_number e) 0) ≤ 25
tested_most e s =
    let fault : fault_of e s.sheet ≤ 25 = omega (arith, fault_most e s.sheet) in
    first_most (fault_of e s.sheet) _ 25 fault
    (cond_most (too_large (edited e s.sheet).units (edited e s.sheet).streams) (large_number e) 0 25 (large_most e) (omega arith))

-- 26 is given exactly when the memory is long enough and no calls could have left the session.
pub exactly_26 : (e : Edit) (s : Session) (room : ℕ) → (edit_number e s room ≡ 26) ↔ ((65536 ≤ room) × (Held s → ⊥))
unfolding edit_number
exactly_26 e s room = (only, also)
  where
    rest : ℕ
    rest = first (fault_of e s.sheet) (cond (too_large (edited e s.sheet).units (edited e s.sheet).streams) (large_number e) 0)

    only : edit_number e s room ≡ 26 → (65536 ≤ room) × (Held s → ⊥)
    only z = go (leb 65536 room) (is_held s) refl refl z
      where
        go : (long held : Bool) → leb 65536 room ≡ long → is_held s ≡ held → cond long (cond held rest 26) 12 ≡ 26
            → (65536 ≤ room) × (Held s → ⊥)
        go true true l h z = absurd (omega (arith, z, tested_most e s))
        go true false l h z = (leb-true 65536 room l, λ k. true≢false (sym (held_tested s k) ∙ h))
        go false held l h z = absurd (omega (arith, z))

    also : (65536 ≤ room) × (Held s → ⊥) → edit_number e s room ≡ 26
    also k = rw (le-leb 65536 room k.0) (go (is_held s) refl)
      where
        go : (held : Bool) → is_held s ≡ held → cond held rest 26 ≡ 26
        go true h = absurd (k.1 ((held_exact s).0 h))
        go false h = refl

-- So an edit of a session that calls could have left isn't refused with it.
pub never_26 : {e : Edit} {s t : Session} {work work' : List ℕ} {code : ℕ} → Held s → Editing e s work code t work' → code ≡ 26 → ⊥
unfolding made_of
never_26 {e} {s} {work = work} h x is =
    let number = x.number ∙ kept_number (session_of (edited e s.sheet)) s (edit_number e s (length work)) in
    ((exactly_26 e s (length work)).0 (sym number ∙ is)).1 h
