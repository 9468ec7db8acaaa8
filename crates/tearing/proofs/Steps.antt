-- One step of the table and one of reading it off. An order of a set begins with a member and goes on with an order of the rest; what it tears
-- is what the streams into that member weigh and what the rest tears. Assumes nothing.
use mathlib.Core.Path.{◌≡◌, refl, sym, ap, ◌∙◌, subst}
use mathlib.Core.Logic.{◌⊎◌, inl, inr, ⊎_elim}
use mathlib.Core.List.{List, ◌∷◌}
use Prim.Native.Nat.{ℕ, ◌+◌, ◌-◌, ◌^◌, ◌<◌, ◌≤◌}
use native.Mathlib.Omega.{arith}
use native.Mathlib.Nat.{eq-or-lt_of_le}
use native.Mathlib.Decide.{dec_lt}
use lib.Pow.{pow_pos}
use lib.ListN.{length}
use Rattle.tearing.specs.Order.{Pick, Perm, none, next, upto, less, same}
use Rattle.tearing.specs.Weight.{into, weight, Before, Best, Least, all}
use Rattle.sets.specs.Sets.{bit, members}
use Rattle.tearing.proofs.Lists.{pick-length}
use Rattle.tearing.proofs.Bits.{bit_le, pick-members, members-pick, all_most}
use Rattle.tearing.proofs.Weight.{weight_next, least_is, weight-all, all_perm}

pub less_bit : (m u : ℕ) → bit u m ≡ 1 → m - 2 ^ u < m
less_bit m u e = omega (arith, bit_le u m e, pow_pos u)

module _ (W : ℕ → ℕ → ℕ) (k m : ℕ) where
  -- an order of the members of m that begins with v
  abbrev Begins : List ℕ → Type 0
  Begins p =
      (v : ℕ)
      × (o : List ℕ)
      × (p ≡ v ∷ o)
      × (v < k)
      × (bit v m ≡ 1)
      × Perm (members k (m - 2 ^ v)) o
      × (weight W p ≡ into W v (members k m) + weight W o)

  begins : {S p : List ℕ} → Perm S p → S ≡ members k m → 0 < length (members k m) → Begins p
  begins none e h = absurd (omega (arith, ap length e))
  begins (next {u = v} {R = R} {o = o} q r) e h =
      let t = members-pick k m (subst (λ (l : List ℕ). Pick v l R) e q) in
      (v, o, refl, t.0, t.1, subst (λ (l : List ℕ). Perm l o) t.2 r, rw (← e) (weight_next W q r))

  pub perm_bound : {o : List ℕ} → Perm (members k m) o → weight W o ≤ all W (upto k) (upto k)
  perm_bound {o} p = omega (arith, weight-all W o, all_perm W p, all_most W k m)

  pub least_bound : {x : ℕ} → Least W (members k m) x → x ≤ all W (upto k) (upto k)
  least_bound l = omega (arith, l.is, perm_bound l.perm)

  -- `t v` is the least of the set without v
  module _ (t : ℕ → ℕ) (rest : (v : ℕ) → v < k → bit v m ≡ 1 → Least W (members k (m - 2 ^ v)) (t v)) where
    -- what an order tears that begins with u and is the least then
    pub begun-bound : (u : ℕ) → u < k → bit u m ≡ 1 → into W u (members k m) + t u ≤ all W (upto k) (upto k)
    begun-bound u hu bu =
        let L = rest u hu bu in
        let q = pick-members k m u hu bu in
        omega (arith, L.is, weight_next W q L.perm, perm_bound (next q L.perm))

    module _ (u : ℕ) (hu : u < k) (bu : bit u m ≡ 1) (low : (v : ℕ) → v < k → bit v m ≡ 1 → into W u (members k m) + t u ≤ into W v (members k m) + t v) where
      taken : Pick u (members k m) (members k (m - 2 ^ u))
      taken = pick-members k m u hu bu

      some : 0 < length (members k m)
      some = omega (arith, pick-length taken)

      -- the least of a set from the leasts of the sets with one member less
      pub least_step : Least W (members k m) (into W u (members k m) + t u)
      least_step =
          let L = rest u hu bu in
          record {
            order = u ∷ L.order;
            perm = next taken L.perm;
            is = omega (arith, weight_next W taken L.perm, L.is);
            below = λ p r.
                let b = begins r refl some in
                omega (arith, low b.0 b.3 b.4, (rest b.0 b.3 b.4).below b.1 b.5, b.6);
          }

      module _ (first : (v : ℕ) → v < u → bit v m ≡ 1 → into W u (members k m) + t u < into W v (members k m) + t v) (o : List ℕ) (best : Best W (members k (m - 2 ^ u)) o) where
        mine : weight W (u ∷ o) ≡ into W u (members k m) + t u
        mine = omega (arith, weight_next W taken best.perm, least_is W best (rest u hu bu))

        -- against an order that begins with the same member, by the rest
        against_same : {p : List ℕ} (b : Begins p) → u ≡ b.0 → Before W (u ∷ o) p
        against_same {p} b e =
            let r : Perm (members k (m - 2 ^ u)) b.1 = rw e b.5 in
            let w = weight_next W taken best.perm in
            let x = weight_next W taken r in
            let y : p ≡ u ∷ b.1 = b.2 ∙ ap (λ (v : ℕ). v ∷ b.1) (sym e) in
            let h : Before W (u ∷ o) (u ∷ b.1) =
            ⊎_elim (λ l. inl (omega (arith, l, w, x))) (λ f. inr (omega (arith, f.0, w, x), same f.1)) (best.first b.1 r) in
            subst (λ (l : List ℕ). Before W (u ∷ o) l) (sym y) h

        against : {p : List ℕ} (b : Begins p) → (u ≡ b.0) ⊎ (u < b.0) → Before W (u ∷ o) p
        against b (inl e) = against_same b e
        against {p} b (inr l) =
            let h : weight W (u ∷ o) ≤ weight W p =
            omega (arith, mine, b.6, low b.0 b.3 b.4, (rest b.0 b.3 b.4).below b.1 b.5) in
            ⊎_elim (λ e. inr (e, rw b.2 (less l))) inl (eq-or-lt_of_le h)

        -- the first member that attains the least, and then the best order of the rest
        pub best_step : Best W (members k m) (u ∷ o)
        best_step =
            record {
              perm = next taken best.perm;
              first = λ p r.
                  let b = begins r refl some in
                  elim (dec_lt b.0 u) [
                    | yes l ↦ inl (omega (arith, mine, b.6, first b.0 l b.4, (rest b.0 b.3 b.4).below b.1 b.5))
                    | no f ↦ against b (eq-or-lt_of_le (omega arith))
                  ];
            }
