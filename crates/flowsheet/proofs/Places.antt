-- A search for a unit's place. Assumes nothing.
use Rattle.std.proofs.Common.{◌≡◌, ℕ, ◌+◌, ◌-◌, ◌<◌, ◌≤◌, Bool, true, false, cond, List, ◌++◌, Option, Some, None, ◌⊎◌, inl, inr, ⊎_elim, length, take, drop, get_or, not, eqb, ltb, is_some, refl, sym, ap, ◌∙◌, length-append, length-take-le, arith}
use Rattle.std.proofs.lemmas.List.{get_or_default}
use Rattle.std.proofs.lemmas.List.Quantifiers.{position-Some}
use Rattle.std.proofs.lemmas.Option.{some_pair_parts}
use Rattle.std.proofs.lemmas.List.Folds.{list_any_at, list_any_none, list_any-append, prefix_len-append}
use Rattle.std.proofs.lemmas.List.Sums.{prefix_len-le-length, prefix_len_passes}
use Rattle.std.specs.List.{list_any, prefix_len, position_or_len}
use Rattle.std.specs.Option.{option_map, option_and_then}
use mathlib.Core.Bool.{true≢false}
use lib.ListN.{length-drop, take-append-drop}
use lib.Seq.{take-add, take_all}
use borrow.Author.Tests.{eq-eqb, ne_eqb, eqb-true, ltb-true, ltb-false, lt-ltb, le-ltb}
use Rattle.flowsheet.specs.Sheet.{place_of, ends_of}
use Rattle.flowsheet.specs.declared.Stream.{Stream}

pub place_found : (us : List ℕ) (n i : ℕ) → place_of us n ≡ Some i → (i < length us) × (get_or us i 0 ≡ n)
unfolding place_of
place_found us n i e = let r = position-Some _ us i 0 e in (r.0, eqb-true _ n r.1)

pub place_nowhere : (us : List ℕ) (n : ℕ) → place_of us n ≡ None → (i : ℕ) → i < length us → get_or us i 0 ≡ n → ⊥
unfolding place_of
place_nowhere us n e i l h = go (ltb (position_or_len (λ (u : ℕ). eqb u n) us) (length us)) refl
  where
    go : (t : Bool) → ltb (position_or_len (λ (u : ℕ). eqb u n) us) (length us) ≡ t → ⊥
    go true f = let z = rw f at e in cc
    go false f =
        let other = prefix_len_passes (λ (u : ℕ). not (eqb u n)) us i 0 (omega (arith, ltb-false _ _ f)) in
        let z = rw (eq-eqb (get_or us i 0) n h) at other in
        cc

-- a number is found or it is not
pub place_cases : (us : List ℕ) (n : ℕ) → ((i : ℕ) × (place_of us n ≡ Some i)) ⊎ (place_of us n ≡ None)
place_cases us n = go (place_of us n) refl
  where
    go : (p : Option ℕ) → place_of us n ≡ p → ((i : ℕ) × (place_of us n ≡ Some i)) ⊎ (place_of us n ≡ None)
    go (Some i) e = inl (i, e)
    go None e = inr e

-- a number has a place where some unit has it, wherever that one stands
place_held : (us : List ℕ) (n : ℕ) → list_any (λ (u : ℕ). eqb u n) us ≡ is_some (place_of us n)
place_held us n = ⊎_elim found missing (place_cases us n)
  where
    found : ((i : ℕ) × (place_of us n ≡ Some i)) → list_any (λ (u : ℕ). eqb u n) us ≡ is_some (place_of us n)
    found r =
        let f = place_found us n r.0 r.1 in
        rw r.1 (list_any_at (λ (u : ℕ). eqb u n) us r.0 0 f.0 (eq-eqb _ n f.1))

    missing : place_of us n ≡ None → list_any (λ (u : ℕ). eqb u n) us ≡ is_some (place_of us n)
    missing e = rw e (list_any_none (λ (u : ℕ). eqb u n) us (λ k d l. ne_eqb _ n (λ h. place_nowhere us n e k l (get_or_default us k 0 d l ∙ h))))

-- ---- a search that goes on behind units that don't have the number

held_none : (us : List ℕ) (n : ℕ) → is_some (place_of us n) ≡ false → place_of us n ≡ None
held_none us n e = ⊎_elim (λ r. absurd (true≢false (sym (ap is_some r.1) ∙ e))) (λ none. none) (place_cases us n)

-- m units more that don't have it
pub none_more : (us : List ℕ) (n k m : ℕ) → place_of (take k us) n ≡ None → list_any (λ (u : ℕ). eqb u n) (take m (drop k us)) ≡ false
    → place_of (take (k + m) us) n ≡ None
none_more us n k m first more =
    let p = λ (u : ℕ). eqb u n in
    held_none _ n
    (sym (place_held _ n)
    ∙ rw (take-add k m us, list_any-append p (take k us) (take m (drop k us)), place_held (take k us) n, first)
    more)

shifted : (k i l : ℕ) → cond (ltb (k + i) (k + l)) (Some (k + i)) None ≡ option_map (λ (j : ℕ). k + j) (cond (ltb i l) (Some i) None)
shifted k i l = go (ltb i l) refl
  where
    go : (t : Bool) → ltb i l ≡ t → cond (ltb (k + i) (k + l)) (Some (k + i)) None ≡ option_map (λ (j : ℕ). k + j) (cond (ltb i l) (Some i) None)
    go true e = rw (e, lt-ltb (k + i) (k + l) (omega (arith, ltb-true i l e))) refl
    go false e = rw (e, le-ltb (k + i) (k + l) (omega (arith, ltb-false i l e))) refl

past : (xs ys : List ℕ) (n : ℕ) → place_of xs n ≡ None → place_of (xs ++ ys) n ≡ option_map (λ (i : ℕ). length xs + i) (place_of ys n)
unfolding place_of
past xs ys n none =
    let q = λ (u : ℕ). not (eqb u n) in
    let all : prefix_len q xs ≡ length xs = go (ltb (prefix_len q xs) (length xs)) refl in
    rw (prefix_len-append q xs ys, all, eq-eqb (length xs) (length xs) refl, length-append xs ys) (shifted (length xs) (prefix_len q ys) (length ys))
  where
    go : (t : Bool) → ltb (prefix_len (λ (u : ℕ). not (eqb u n)) xs) (length xs) ≡ t → prefix_len (λ (u : ℕ). not (eqb u n)) xs ≡ length xs
    go true e = let z = rw e at none in absurd (cc)
    go false e = omega (arith, ltb-false _ _ e, prefix_len-le-length (λ (u : ℕ). not (eqb u n)) xs)

-- the units behind the first k, as a slice gives them
rest : (us : List ℕ) (k : ℕ) → take (length us - k) (drop k us) ≡ drop k us
rest us k = take_all _ _ (rw length-drop (omega arith))

-- where the first k units don't have the number, its place is that behind them
pub place_past : (us : List ℕ) (n k : ℕ) → k ≤ length us → place_of (take k us) n ≡ None
    → place_of us n ≡ option_map (λ (i : ℕ). k + i) (place_of (take (length us - k) (drop k us)) n)
place_past us n k h none =
    let e : length (take k us) ≡ k = length-take-le k us h in
    ap (λ (l : List ℕ). place_of l n) (sym (take-append-drop k us)) ∙ past (take k us) (drop k us) n none ∙ rw (e, rest us k) refl

pub past_within : (us : List ℕ) (n k i : ℕ) (searched : Option ℕ) → k ≤ length us → searched ≡ place_of (take (length us - k) (drop k us)) n
    → searched ≡ Some i → k + i < length us
past_within us n k i searched h e is =
    let f = place_found (drop k us) n i (sym (rw (rest us k) at e) ∙ is) in
    omega (arith, rw length-drop at f.0)

both_found : (p q : Option ℕ) (i j : ℕ) → option_and_then {U = ℕ × ℕ} (λ (k : ℕ). option_map (λ (m : ℕ). (k, m)) q) p ≡ Some (i, j) → (p ≡ Some i) × (q ≡ Some j)
both_found (Some k) (Some m) i j e = let r = some_pair_parts k i m j e in (ap Some r.0, ap Some r.1)
both_found _ _ i j e = absurd (cc)

-- a stream's ends that are found are the places of its source and its receiver
pub ends_found : (us : List ℕ) (s : Stream) (i j : ℕ) → ends_of us s ≡ Some (i, j) → (place_of us s.source ≡ Some i) × (place_of us s.receiver ≡ Some j)
unfolding ends_of
ends_found us s i j e = both_found (place_of us s.source) (place_of us s.receiver) i j e
