-- Only one plan keeps the rules. Two plans that begin alike go on alike: the next block of each is fed and stands somewhere in the rest of the
-- other, so unless the two have a unit in common each holds a unit below all units of the other. Assumes nothing.
use mathlib.Core.List.{List, [], ◌∷◌, ◌++◌, append-nil, append_assoc, Memᴰ}
use mathlib.Core.Logic.{◌⊎◌, inl, inr, ⊎_elim}
use mathlib.Core.Path.{◌≡◌, refl, sym, ap, ap₂, ◌∙◌, subst}
use Prim.Native.Nat.{ℕ}
use native.Mathlib.Omega.{arith}
use Rattle.flowsheet.specs.declared.Stream.{Stream}
use Rattle.blocks.proofs.Places.{rising_unique}
use Rattle.tearing.proofs.Lists.{Distinct}
use Rattle.planner.specs.Demand2.{Torn, BlockRules, Placed, Fed, Lower, Rules}
use Rattle.planner.specs.Plan.{BlockPlan}
use Rattle.planner.specs.Tables.{order_table}
use Rattle.planner.proofs.Members.{mem_middle, once_distinct, distinct_apart, distinct_left, distinct_right, rises_rising}
use Rattle.tearing.proofs.Weight.{lex_both}
use Rattle.planner.proofs.Orders.{same_members}
use Rattle.planner.proofs.Parted.{order_append, order_has, order_only}

-- the same units
abbrev SameUnits : BlockPlan → BlockPlan → Type 0
SameUnits b c = (u : ℕ) → (Memᴰ u b.units → Memᴰ u c.units) × (Memᴰ u c.units → Memᴰ u b.units)

module _ (us : List ℕ) (ss : List Stream) where
  plan_distinct : {plan : List BlockPlan} → Rules us ss plan → Distinct (order_table plan)
  plan_distinct {plan} r = once_distinct (order_table plan) r.once

  -- a block of a plan has no unit of those before it
  not_before : {plan : List BlockPlan} → Rules us ss plan → (front back : List BlockPlan) → plan ≡ front ++ back → (u : ℕ)
      → Placed back u → Placed front u → ⊥
  not_before r front back e u p q =
      distinct_apart (order_table front) (order_table back)
      (subst (λ (l : List ℕ). Distinct l) (ap order_table e ∙ order_append front back) (plan_distinct r)) u q p

  -- what isn't placed in front is placed behind
  placed_back : {plan : List BlockPlan} → Rules us ss plan → (front back : List BlockPlan) → plan ≡ front ++ back → (u : ℕ)
      → Memᴰ u us → (Placed front u → ⊥) → Placed back u
  placed_back r front back e u p f =
      ⊎_elim (λ q. absurd (f q)) (λ q. q)
      (mathlib.Core.List.Memᴰ.append_cases (order_table front)
      (subst (λ (l : List ℕ). Memᴰ u l) (ap order_table e ∙ order_append front back) (r.all u p)))

  unit_known : {plan : List BlockPlan} → Rules us ss plan → (b : BlockPlan) → Memᴰ b plan → (u : ℕ) → Memᴰ u b.units → Memᴰ u us
  unit_known r b m u p = r.only u (order_has u m p)

  -- blocks of two plans that have a unit in common have all
  same_units : {P Q : List BlockPlan} → Rules us ss P → Rules us ss Q → (b c : BlockPlan) → Memᴰ b P → Memᴰ c Q
      → (w : ℕ) → Memᴰ w b.units → Memᴰ w c.units → SameUnits b c
  same_units r s b c m n w p q u = (
    λ x. let k = unit_known r b m u x in (s.share c n w q u k).1 ((r.share b m w p u k).0 x),
    λ x. let k = unit_known s c n u x in (r.share b m w p u k).1 ((s.share c n w q u k).0 x),
  )

  -- blocks with the same units are fed alike
  fed_same : (front : List BlockPlan) (b c : BlockPlan) → SameUnits b c → Fed us ss front b → Fed us ss front c
  fed_same front b c e f u v h p n = f u v h ((e v).1 p) (λ x. n ((e u).0 x))

  -- the block of the one plan that has the units of the other's next block: the next one too, or one that holds none of the lowest units
  met : {P Q : List BlockPlan} → Rules us ss P → Rules us ss Q → (front back rest : List BlockPlan) (b c : BlockPlan)
      → P ≡ front ++ (b ∷ back) → Q ≡ front ++ (c ∷ rest) → SameUnits b c ⊎ Lower b c
  met {P} {Q} r s front back rest b c e f =
      let mb : Memᴰ b P = subst (λ (l : List BlockPlan). Memᴰ b l) (sym e) (mem_middle front back) in
      let mc : Memᴰ c Q = subst (λ (l : List BlockPlan). Memᴰ c l) (sym f) (mem_middle front rest) in
      let w = s.some c mc in
      let left : Placed front w.0 → ⊥ =
      not_before s front (c ∷ rest) f w.0 (mathlib.Core.List.Memᴰ.append_left (order_table rest) w.1) in
      let k = order_only (b ∷ back) w.0 (placed_back r front (b ∷ back) e w.0 (unit_known s c mc w.0 w.1) left) in
      let mk : Memᴰ k.0 P = subst (λ (l : List BlockPlan). Memᴰ k.0 l) (sym e) (mathlib.Core.List.Memᴰ.append_right front k.1) in
      let same : SameUnits k.0 c = same_units r s k.0 c mk mc w.0 k.2 w.1 in
      ⊎_elim
      (λ q. inl (subst (λ (x : BlockPlan). SameUnits x c) q same))
      (λ q.
      let l = r.lowest front back b e k.0 q (fed_same front c k.0 (λ u. ((same u).1, (same u).0)) (s.fed front rest c f)) in
      inr (record { unit = l.unit; of = l.of; below = λ v p. l.below v ((same v).1 p) }))
      (mathlib.Core.List.Memᴰ.cases_cons k.1)

  -- blocks that keep rules 2 and 3 and have the same units are one
  block_only : (b c : BlockPlan) → Distinct b.units → Distinct c.units → BlockRules ss b → BlockRules ss c → SameUnits b c → b ≡ c
  block_only b c d e r s same =
      let p = same_members b.units c.units d e (λ u. (same u).0) (λ u. (same u).1) in
      let q = same_members c.units b.units e d (λ u. (same u).1) (λ u. (same u).0) in
      let lighter = r.least c.units p in
      let heavier = s.least b.units q in
      let units : b.units ≡ c.units = lex_both (r.first c.units p (omega arith)) (s.first b.units q (omega arith)) in
      let torn : b.torn ≡ c.torn =
      rising_unique (rises_rising r.rising) (rises_rising s.rising)
      (λ n m. let t = (r.torn n).0 m in (s.torn n).1 (t.0, t.1, t.2, subst (λ (l : List ℕ). Torn l t.0) units t.3))
      (λ n m. let t = (s.torn n).0 m in (r.torn n).1 (t.0, t.1, t.2, subst (λ (l : List ℕ). Torn l t.0) (sym units) t.3)) in
      ap₂ (λ (x y : List ℕ). record { units = x; torn = y }) units torn

  units_distinct : {plan : List BlockPlan} → Rules us ss plan → (front back : List BlockPlan) (b : BlockPlan) → plan ≡ front ++ (b ∷ back)
      → Distinct b.units
  units_distinct r front back b e =
      distinct_left b.units (order_table back)
      (distinct_right (order_table front) (order_table (b ∷ back))
      (subst (λ (l : List ℕ). Distinct l) (ap order_table e ∙ order_append front (b ∷ back)) (plan_distinct r)))

  -- the next blocks of two plans that begin alike are one
  next_same : {P Q : List BlockPlan} → Rules us ss P → Rules us ss Q → (front back rest : List BlockPlan) (b c : BlockPlan)
      → P ≡ front ++ (b ∷ back) → Q ≡ front ++ (c ∷ rest) → b ≡ c
  next_same {P} {Q} r s front back rest b c e f =
      block_only b c (units_distinct r front back b e) (units_distinct s front rest c f)
      (r.blocks b (subst (λ (l : List BlockPlan). Memᴰ b l) (sym e) (mem_middle front back)))
      (s.blocks c (subst (λ (l : List BlockPlan). Memᴰ c l) (sym f) (mem_middle front rest)))
      (alike (met r s front back rest b c e f) (met s r front rest back c b f e))
    where
      alike : SameUnits b c ⊎ Lower b c → SameUnits c b ⊎ Lower c b → SameUnits b c
      alike (inl x) y = x
      alike (inr x) (inl y) = λ u. ((y u).1, (y u).0)
      alike (inr x) (inr y) = absurd (omega (arith, x.below y.unit y.of, y.below x.unit x.of))

  -- a plan doesn't end before another that begins alike
  no_more : {P Q : List BlockPlan} → Rules us ss P → Rules us ss Q → (front rest : List BlockPlan) (c : BlockPlan)
      → P ≡ front → Q ≡ front ++ (c ∷ rest) → ⊥
  no_more {P} {Q} r s front rest c e f =
      let mc : Memᴰ c Q = subst (λ (l : List BlockPlan). Memᴰ c l) (sym f) (mem_middle front rest) in
      let w = s.some c mc in
      not_before s front (c ∷ rest) f w.0 (mathlib.Core.List.Memᴰ.append_left (order_table rest) w.1)
      (subst (λ (l : List BlockPlan). Placed l w.0) e (r.all w.0 (unit_known s c mc w.0 w.1)))

  rest_same : {P Q : List BlockPlan} → Rules us ss P → Rules us ss Q → (front back rest : List BlockPlan) → P ≡ front ++ back → Q ≡ front ++ rest
      → back ≡ rest
  rest_same r s front [] [] e f = refl
  rest_same r s front [] (c ∷ rest) e f = absurd (no_more r s front rest c (e ∙ append-nil front) f)
  rest_same r s front (b ∷ back) [] e f = absurd (no_more s r front back b (f ∙ append-nil front) e)
  rest_same r s front (b ∷ back) (c ∷ rest) e f =
      let same = next_same r s front back rest b c e f in
      ap₂ (λ (x : BlockPlan) (l : List BlockPlan). x ∷ l) same
      (rest_same r s (front ++ (b ∷ [])) back rest (e ∙ sym (append_assoc front (b ∷ []) back))
      (f ∙ ap (λ (x : BlockPlan). front ++ (x ∷ rest)) (sym same) ∙ sym (append_assoc front (b ∷ []) rest)))

  -- Two plans that keep the rules are one.
  pub rules_only : {P Q : List BlockPlan} → Rules us ss P → Rules us ss Q → P ≡ Q
  rules_only {P} {Q} r s = rest_same r s [] P Q refl refl
