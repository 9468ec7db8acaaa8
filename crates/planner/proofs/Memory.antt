-- The working memory: what is left of it before it is cleared, and what rule 5 leaves. Assumes nothing.
use mathlib.Core.Bool.{Bool, true, false, cond}
use mathlib.Core.List.{List, ◌++◌}
use mathlib.Core.Path.{◌≡◌, refl, ap, ◌∙◌}
use Prim.Native.Nat.{ℕ, ◌≤◌, ◌<◌}
use native.Mathlib.Omega.{arith}
use borrow.Author.Tests.{le-leb, lt-leb, leb-true, leb-false}
use lib.Dec.{leb}
use lib.ListN.{length, take, drop, length-append, length-drop}
use Rattle.std.proofs.lemmas.List.{length-take}
use Rattle.std.proofs.lemmas.Slice.{drop-append-drop}
use Rattle.words.specs.Words.{cleared}
use Rattle.words.proofs.Cleared.{cleared_same, length-cleared, drop-cleared}
use Rattle.planner.specs.Answer.{work_after, Spent}

pub spent-cleared : (before after : List ℕ) → Spent before after → work_after after ≡ work_after before
unfolding work_after
spent-cleared before after s =
    ap (λ (n : ℕ). cond (leb 65536 n) (cleared after 65536) after) s.long ∙ go (leb 65536 (length before)) refl
  where
    go : (t : Bool) → leb 65536 (length before) ≡ t
        → cond (leb 65536 (length before)) (cleared after 65536) after ≡ cond (leb 65536 (length before)) (cleared before 65536) before
    go true e = rw e (cleared_same after before 65536 s.beyond)
    go false e = rw e (s.short (leb-false 65536 (length before) e))

-- where a memory is long enough its front is written, of any content but as long, and the rest stays
pub spent_front : (before front : List ℕ) → 65536 ≤ length before → length front ≡ length (take 65536 before) → Spent before (front ++ drop 65536 before)
spent_front before front h e =
    let k : length front ≡ 65536 = e ∙ rw length-take (omega arith) in
    record {
      long = rw (length-append, length-drop) (omega (arith, k));
      beyond = drop-append-drop 65536 before front 65536 (omega arith) k;
      short = λ l. absurd (omega arith);
    }

pub work_long : (work after : List ℕ) → 65536 ≤ length work → after ≡ cleared work 65536 → after ≡ work_after work
unfolding work_after
work_long work after h e = rw (le-leb 65536 (length work) h) e

pub work_short : (work : List ℕ) → length work < 65536 → work ≡ work_after work
unfolding work_after
work_short work h = rw (lt-leb 65536 (length work) h)

-- what wasn't touched
pub spent_none : (work : List ℕ) → Spent work work
spent_none work = record { long = refl; beyond = refl; short = λ h. refl }

pub spent_then : (a b c : List ℕ) → Spent a b → Spent b c → Spent a c
spent_then a b c s t =
    record {
      long = t.long ∙ s.long;
      beyond = t.beyond ∙ s.beyond;
      short = λ h. t.short (omega (arith, s.long)) ∙ s.short h;
    }

-- what was cleared
pub spent_after : (work : List ℕ) → Spent work (work_after work)
unfolding work_after
spent_after work = go (leb 65536 (length work)) refl
  where
    go : (t : Bool) → leb 65536 (length work) ≡ t → Spent work (cond t (cleared work 65536) work)
    go true e =
        let long : 65536 ≤ length work = leb-true 65536 (length work) e in
        record {
          long = length-cleared work 65536 long;
          beyond = drop-cleared work 65536 65536 (omega arith);
          short = λ h. absurd (omega arith);
        }
    go false e = spent_none work
