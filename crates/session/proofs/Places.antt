-- Where records stand and where they go: a place that is found lies in the list, and the place to go lies in it or at its end. Assumes nothing.
use Rattle.std.proofs.Common.{◌≡◌, ℕ, ◌≤◌, ◌<◌, Bool, true, false, List, length, Some, None, cond, ltb, not, refl, arith}
use Rattle.std.proofs.lemmas.List.Quantifiers.{position-Some}
use Rattle.std.proofs.lemmas.List.Sums.{prefix_len-le-length}
use Rattle.std.specs.List.{position, position_or_len}
use Rattle.std.specs.Option.{unwrap_or}
use borrow.Author.Tests.{ltb-false}
use Rattle.flowsheet.specs.Sheet.{no_stream, place_of}
use Rattle.flowsheet.specs.declared.Stream.{Stream}
use Rattle.flowsheet.proofs.Places.{place_found}
use Rattle.session.specs.Edited.{stream_place, unit_turn, stream_turn}

pub unit_below : (us : List ℕ) (n p : ℕ) → place_of us n ≡ Some p → p < length us
unit_below us n p e = (place_found us n p e).0

pub stream_below : (ss : List Stream) (n p : ℕ) → stream_place ss n ≡ Some p → p < length ss
unfolding stream_place
stream_below ss n p e = (position-Some _ ss p no_stream e).0

module _ {A : Type 0} (test : A → Bool) (l : List A) where
  most : position_or_len test l ≤ length l
  most = prefix_len-le-length (λ x. not (test x)) l

  -- the first place that passes a test, or the end
  pub first_or_end : unwrap_or (position test l) (length l) ≡ position_or_len test l
  first_or_end = go (ltb (position_or_len test l) (length l)) refl
    where
      go : (t : Bool) → ltb (position_or_len test l) (length l) ≡ t
          → unwrap_or (cond t (Some (position_or_len test l)) None) (length l) ≡ position_or_len test l
      go true e = refl
      go false e = omega (arith, ltb-false (position_or_len test l) (length l) e, most)

pub unit_turn_most : (us : List ℕ) (n : ℕ) → unit_turn us n ≤ length us
unfolding unit_turn
unit_turn_most us n = most (λ (u : ℕ). ltb n u) us

pub stream_turn_most : (ss : List Stream) (n : ℕ) → stream_turn ss n ≤ length ss
unfolding stream_turn
stream_turn_most ss n = most (λ (s : Stream). ltb n s.number) ss
