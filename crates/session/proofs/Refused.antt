-- What is known of an edit that the flowsheet doesn't refuse. Assumes nothing.
use Rattle.std.proofs.Common.{◌≡◌, ℕ, suc, ◌≤◌, ◌<◌, Bool, true, false, cond, ◌&&◌, leb, ltb, leb-true, refl, arith}
use Rattle.std.proofs.lemmas.Bool.{and_parts}
use borrow.Author.Tests.{ltb-true}
use Rattle.session.specs.Refused.{add_fault}

-- of two tests, one after the other, that give a number where they fail, or where they hold
pub passed : (t : Bool) (a k : ℕ) → cond t a (suc k) ≡ 0 → (t ≡ true) × (a ≡ 0)
passed true a k e = (refl, e)
passed false a k e = absurd (omega arith)

pub failed : (t : Bool) (a k : ℕ) → cond t (suc k) a ≡ 0 → (t ≡ false) × (a ≡ 0)
failed true a k e = absurd (omega arith)
failed false a k e = (refl, e)

-- a number that may be added is in range and isn't held, and there is room for it
pub added_number : (n : ℕ) (held : Bool) (count most : ℕ) → add_fault n held count most ≡ 0
    → (1 ≤ n) × (n ≤ 9999) × (held ≡ false) × (count < most)
unfolding add_fault
added_number n held count most e =
    let r = passed (leb 1 n && leb n 9999) (cond held 21 (cond (ltb count most) 0 22)) 19 e in
    let range = and_parts (leb 1 n) _ r.0 in
    let new = failed held (cond (ltb count most) 0 22) 20 r.1 in
    (leb-true 1 n range.0, leb-true n 9999 range.1, new.0, ltb-true count most (passed (ltb count most) 0 21 new.1).0)

pub add_room : (n : ℕ) (held : Bool) (count most : ℕ) → add_fault n held count most ≡ 0 → count < most
add_room n held count most e = (added_number n held count most e).3
