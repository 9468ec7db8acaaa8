-- Planning on an image answers a number exactly when the table gives it: 11 and 12, and those of reading, which are flowsheet's (its
-- proofs/Exact.antt). The test for a block over 12 is one for `Large` (`large_exact`). Every image has an answer (`answered`), and an answer
-- fixes the number (`answer_is`); the rest follows from these two. Assumes nothing.
use mathlib.Core.Bool.{Bool, true, false, true≢false}
use mathlib.Core.List.{List}
use mathlib.Core.Logic.{◌⊎◌, inl, inr, ⊎_elim, ◌↔◌}
use mathlib.Core.Path.{◌≡◌, refl, sym, ap, ◌∙◌, subst}
use Prim.Native.Nat.{ℕ, zero, suc, ◌≤◌, ◌<◌}
use native.Mathlib.Decide.{dec_lt}
use native.Mathlib.Omega.{arith}
use borrow.Author.Tests.{le-leb, lt-leb}
use Rattle.std.proofs.lemmas.Bool.{false_from_ne_true}
use lib.ListN.{length}
use Rattle.blocks.proofs.Places.{rising_unique}
use Rattle.flowsheet.specs.Exactly.{Refusal, Accepted}
use Rattle.flowsheet.specs.Good.{Good}
use Rattle.flowsheet.specs.Image.{unit_list, stream_list, answer_of}
use Rattle.flowsheet.specs.declared.Stream.{Stream}
use Rattle.flowsheet.proofs.Exact.{accepted_is, refusal_is, decided, is_accepted, accepted_not_refused}
use Rattle.flowsheet.proofs.Good.{accepted_good}
use Rattle.planner.specs.Answer.{plan_number, planned_of, planned_from, planned_image, number_from, Planning}
use Rattle.planner.specs.Exactly.{Large, Plannable, plan_size, Answers, reading, large, memory, short, planned}
use Rattle.planner.specs.Plan.{too_large}
use Rattle.planner.proofs.Members.{rises_rising}
use Rattle.planner.proofs.Parted.{blocks_known, blocks_rise, blocks_share, blocks_small, blocks_some, block_large, unit_block}

-- ---- a block over 12 units

module _ {us : List ℕ} {ss : List Stream} (good : Good us ss) where
  -- a block that is over 12 is that of any of its units
  large_block : too_large us ss ≡ true → Large us ss
  large_block e =
      let b = block_large us ss e in
      let u = blocks_some good b.0 b.1 in
      let known = blocks_known good b.0 b.1 in
      record {
        unit = u.0;
        known = known u.0 u.1;
        block = b.0;
        rises = blocks_rise good b.0 b.1;
        shared = λ v m. (known v m, (blocks_share good b.0 b.1 u.0 v u.1 (known v m)).0 m);
        whole = λ v k s. (blocks_share good b.0 b.1 u.0 v u.1 k).1 s;
        over = b.2;
      }

  -- a block over 12 of some unit has the units of the one that is computed for it
  block_too_large : Large us ss → too_large us ss ≡ true
  block_too_large l = go (too_large us ss) refl
    where
      go : (t : Bool) → too_large us ss ≡ t → t ≡ true
      go true e = refl
      go false e =
          let b = unit_block good l.unit l.known in
          let same : l.block ≡ b.0 =
          rising_unique (rises_rising l.rises) (rises_rising (blocks_rise good b.0 b.1))
          (λ v m. let s = l.shared v m in (blocks_share good b.0 b.1 l.unit v b.2 s.0).1 s.1)
          (λ v m.
          let k = blocks_known good b.0 b.1 v m in
          l.whole v k ((blocks_share good b.0 b.1 l.unit v b.2 k).0 m)) in
          absurd (omega (arith, l.over, ap length same, blocks_small us ss e b.0 b.1))

  -- The test finds some block too large exactly when some unit's block is over 12.
  pub large_exact : (too_large us ss ≡ true) ↔ Large us ss
  large_exact = (large_block, block_too_large)

-- ---- the answer

module _ (image : List ℕ) where
  abbrev us : List ℕ
  us = unit_list image

  abbrev ss : List Stream
  ss = stream_list image

  image_good : Accepted image → Good us ss
  image_good a = accepted_good image a

  -- an accepted image has a block over 12 units or can be planned
  dec_large : Accepted image → Large us ss ⊎ (Large us ss → ⊥)
  dec_large a = go (too_large us ss) refl
    where
      go : (t : Bool) → too_large us ss ≡ t → Large us ss ⊎ (Large us ss → ⊥)
      go true e = inl ((large_exact (image_good a)).0 e)
      go false e = inr (λ l. true≢false (sym ((large_exact (image_good a)).1 l) ∙ e))

  is_small : Plannable image → too_large us ss ≡ false
  is_small p = false_from_ne_true (too_large us ss) (λ e. p.small ((large_exact (image_good p.accepted)).0 e))

  module _ (buffer room : ℕ) where
    -- the number that planning gives
    abbrev given : ℕ
    given = number_from (planned_image image room) buffer

    given_refused : {n : ℕ} → Refusal image n → given ≡ n
    unfolding planned_image
    given_refused {n} r = go n (refusal_is image r) (λ z. accepted_not_refused image (is_accepted image (refusal_is image r ∙ z)) r)
      where
        go : (k : ℕ) → answer_of image ≡ k → (k ≡ 0 → ⊥) → number_from (planned_from (answer_of image) image room) buffer ≡ k
        go zero e f = absurd (f refl)
        go (suc k) e f = rw e refl

    given_large : Accepted image → Large us ss → given ≡ 11
    unfolding planned_image planned_of plan_number
    given_large a l = simp (accepted_is image a, (large_exact (image_good a)).1 l)

    given_memory : Plannable image → room < 65536 → given ≡ 12
    unfolding planned_image planned_of plan_number
    given_memory p h = simp (accepted_is image p.accepted, is_small p, lt-leb 65536 room h)

    given_short : Plannable image → 65536 ≤ room → buffer < plan_size image → given ≡ 12
    unfolding planned_image planned_of plan_number
    given_short p h s = simp (accepted_is image p.accepted, is_small p, le-leb 65536 room h, lt-leb (plan_size image) buffer s)

    given_planned : Plannable image → 65536 ≤ room → plan_size image ≤ buffer → given ≡ 0
    unfolding planned_image planned_of plan_number
    given_planned p h s = simp (accepted_is image p.accepted, is_small p, le-leb 65536 room h, le-leb (plan_size image) buffer s)

    -- an answer of the table fixes it
    pub answer_is : {n : ℕ} → Answers image buffer room n → given ≡ n
    answer_is (reading r) = given_refused r
    answer_is (large a l) = given_large a l
    answer_is (memory p h) = given_memory p h
    answer_is (short p h s) = given_short p h s
    answer_is (planned p h s) = given_planned p h s

    -- and the table has an answer for every image
    pub answered : (n : ℕ) × Answers image buffer room n
    answered = ⊎_elim accepted (λ r. (suc r.0, reading r.1)) (decided image)
      where
        small : Plannable image → (n : ℕ) × Answers image buffer room n
        small p =
            elim (dec_lt room 65536) [
              | yes h ↦ (12, memory p h)
              | no f ↦
                  elim (dec_lt buffer (plan_size image)) [
                    | yes s ↦ (12, short p (omega arith) s)
                    | no g ↦ (0, planned p (omega arith) (omega arith))
                  ]
            ]

        accepted : Accepted image → (n : ℕ) × Answers image buffer room n
        accepted a = ⊎_elim (λ l. (11, large a l)) (λ f. small (record { accepted = a; small = f })) (dec_large a)

    -- "Given exactly when": planning gives the number n exactly when the table answers n.
    pub exactly : (n : ℕ) → (given ≡ n) ↔ Answers image buffer room n
    exactly n = (λ e. subst (λ (k : ℕ). Answers image buffer room k) (sym (answer_is answered.1) ∙ e) answered.1, λ a. answer_is a)

-- So it is with what planning on an image returns.
pub planning_exactly : {image buffer work : List ℕ} {code : ℕ} {buffer' work' : List ℕ} → Planning image buffer work code buffer' work'
    → (n : ℕ) → (code ≡ n) ↔ Answers image (length buffer) (length work) n
planning_exactly {image} {buffer} {work} p n =
    subst (λ (k : ℕ). (k ≡ n) ↔ Answers image (length buffer) (length work) n) (sym p.number) (exactly image (length buffer) (length work) n)
