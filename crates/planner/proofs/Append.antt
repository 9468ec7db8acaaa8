-- The torn streams of a list of streams, one stream further. Assumes nothing.
use mathlib.Core.Bool.{Bool, true, false}
use mathlib.Core.List.{List, [], ◌∷◌, ◌++◌, append-nil, append_assoc}
use mathlib.Core.Path.{◌≡◌, refl, sym, ap, ◌∙◌}
use Prim.Native.Nat.{ℕ, ◌+◌, ◌≤◌, ◌<◌}
use native.Mathlib.Numerals.{add-one}
use native.Mathlib.Omega.{arith}
use lib.ListN.{length, get_or, take, drop, length-append, take-append-drop}
use lib.Seq.{take-suc}
use Rattle.flowsheet.specs.Sheet.{no_stream}
use Rattle.flowsheet.specs.declared.Stream.{Stream}
use Rattle.planner.specs.Plan.{is_torn, torn_of}

-- the torn streams of two lists of streams are those of the one and then those of the other
pub torn-append : (o : List ℕ) (s t : List Stream) → torn_of o (s ++ t) ≡ torn_of o s ++ torn_of o t
unfolding torn_of
torn-append o [] t = refl
torn-append o (x ∷ s) t = go (is_torn o x) refl (torn-append o s t)
  where
    go : (b : Bool) → is_torn o x ≡ b → torn_of o (s ++ t) ≡ torn_of o s ++ torn_of o t → torn_of o ((x ∷ s) ++ t) ≡ torn_of o (x ∷ s) ++ torn_of o t
    go true e ih = rw (e, ih)
    go false e ih = rw (e, ih)

-- no more are torn among the first streams than among all
torn_front : (o : List ℕ) (ss : List Stream) (i : ℕ) → length (torn_of o (take i ss)) ≤ length (torn_of o ss)
torn_front o ss i =
    let e : torn_of o ss ≡ torn_of o (take i ss) ++ torn_of o (drop i ss) =
    ap (torn_of o) (sym (take-append-drop i ss)) ∙ torn-append o (take i ss) (drop i ss) in
    omega (arith, ap length e, length-append (torn_of o (take i ss)) (torn_of o (drop i ss)))

-- one stream further
module _ (o : List ℕ) (ss : List Stream) (i : ℕ) (h : i < length ss) where
  torn_more : is_torn o (get_or ss i no_stream) ≡ true → torn_of o (take (i + 1) ss) ≡ torn_of o (take i ss) ++ ((get_or ss i no_stream).number ∷ [])
  unfolding torn_of
  torn_more e = rw (add-one i, take-suc ss i no_stream h, torn-append o (take i ss) (get_or ss i no_stream ∷ []), e)

  -- a torn stream goes behind those that are there
  pub torn_next : (old : List ℕ) → is_torn o (get_or ss i no_stream) ≡ true
      → old ++ torn_of o (take (i + 1) ss) ≡ (old ++ torn_of o (take i ss)) ++ ((get_or ss i no_stream).number ∷ [])
  torn_next old e =
      ap (λ (l : List ℕ). old ++ l) (torn_more e) ∙ sym (append_assoc old (torn_of o (take i ss)) ((get_or ss i no_stream).number ∷ []))

  -- another leaves them as they are
  pub torn_same : is_torn o (get_or ss i no_stream) ≡ false → torn_of o (take (i + 1) ss) ≡ torn_of o (take i ss)
  unfolding torn_of
  torn_same e = rw (add-one i, take-suc ss i no_stream h, torn-append o (take i ss) (get_or ss i no_stream ∷ []), e, append-nil)

  -- where there is room for all that are torn, there is for this one
  pub torn_room : (old table : List ℕ) → table ≡ old ++ torn_of o (take i ss) → is_torn o (get_or ss i no_stream) ≡ true
      → length table < length old + length (torn_of o ss)
  torn_room old table so_far e =
      omega (
        arith,
        ap length so_far,
        length-append old (torn_of o (take i ss)),
        ap length (torn_more e),
        length-append (torn_of o (take i ss)) ((get_or ss i no_stream).number ∷ []),
        torn_front o ss (i + 1),
      )
