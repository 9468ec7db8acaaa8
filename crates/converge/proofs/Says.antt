-- A test and the statement that it decides: the test passes where the statement holds, and fails where it doesn't. Assumes nothing.
use mathlib.Core.Path.{◌≡◌, refl, sym, ◌∙◌}
use mathlib.Core.Bool.{Bool, true, false, not, cond, ◌&&◌, ◌||◌}
use mathlib.Core.List.{List, [], ◌∷◌}
use mathlib.Core.Logic.{◌⊎◌, inl, inr, ⊎_elim}
use Prim.Native.Nat.{ℕ, ◌<◌, ◌≤◌}
use native.Mathlib.Omega.{arith}
use lib.Dec.{eqb, ltb}
use borrow.Author.Tests.{ltb-true, ltb-false, eqb-true, eqb-false}
use Rattle.converge.proofs.Flags.{true_false, false_true}

pub record Says (t : Bool) (P : Type 0) : Type 0 where
  pub holds : t ≡ true → P
  pub fails : t ≡ false → P → ⊥

-- what doesn't hold fails the test
pub misses : {P : Type 0} (t : Bool) → Says t P → (P → ⊥) → t ≡ false
misses true s n = absurd (n (s.holds refl))
misses false s n = refl

pub says_eqb : (a b : ℕ) → Says (eqb a b) (a ≡ b)
says_eqb a b = record { holds = eqb-true a b; fails = eqb-false a b }

pub says_ltb : (a b : ℕ) → Says (ltb a b) (a < b)
says_ltb a b = record { holds = ltb-true a b; fails = λ e l. let g : b ≤ a = ltb-false a b e in omega arith }

pub says_no_flag : (t : Bool) → Says (not t) (t ≡ false)
says_no_flag true = record { holds = λ e. false_true e; fails = λ e h. true_false h }
says_no_flag false = record { holds = λ e. refl; fails = λ e h. true_false e }

pub says_not : {P : Type 0} (t : Bool) → Says t P → Says (not t) (P → ⊥)
says_not true s = record { holds = λ e. false_true e; fails = λ e n. n (s.holds refl) }
says_not false s = record { holds = λ e. s.fails refl; fails = λ e. true_false e }

pub says_or : {P Q : Type 0} (a b : Bool) → Says a P → Says b Q → Says (a || b) (P ⊎ Q)
says_or true b s r = record { holds = λ e. inl (s.holds refl); fails = λ e. true_false e }
says_or false b s r = record { holds = λ e. inr (r.holds e); fails = λ e. ⊎_elim (s.fails refl) (r.fails e) }

pub says_and : {P Q : Type 0} (a b : Bool) → Says a P → Says b Q → Says (a && b) (P × Q)
says_and true b s r = record { holds = λ e. (s.holds refl, r.holds e); fails = λ e w. r.fails e w.1 }
says_and false b s r = record { holds = λ e. false_true e; fails = λ e w. s.fails refl w.0 }

pub says_nand : {P Q : Type 0} (a b : Bool) → Says (not a) P → Says (not b) Q → Says (not (a && b)) (P ⊎ Q)
says_nand true b s r = record { holds = λ e. inr (r.holds e); fails = λ e. ⊎_elim (s.fails refl) (r.fails e) }
says_nand false b s r = record { holds = λ e. inl (s.holds refl); fails = λ e. true_false e }

-- ---- lists

-- a member of a list of which P holds
pub data Some {A : Type 0} (P : A → Type 0) : List A → Type 0 where
  here : {a : A} {l : List A} → P a → Some P (a ∷ l)
  later : {a : A} {l : List A} → Some P l → Some P (a ∷ l)

module _ {A : Type 0} {P : A → Type 0} where
  pub none_here : Some P [] → ⊥
  none_here w = elim w [ ]

  pub neither : {a : A} {l : List A} → (P a → ⊥) → (Some P l → ⊥) → Some P (a ∷ l) → ⊥
  neither n m (here p) = n p
  neither n m (later w) = m w

  pub says_some : {a : A} {l : List A} (s t : Bool) → Says (not s) (P a) → Says (not t) (Some P l) → Says (not (s && t)) (Some P (a ∷ l))
  says_some true true s r = record { holds = λ e. false_true e; fails = λ e. neither (s.fails refl) (r.fails refl) }
  says_some true false s r = record { holds = λ e. later (r.holds refl); fails = λ e. true_false e }
  says_some false t s r = record { holds = λ e. here (s.holds refl); fails = λ e. true_false e }

-- ---- a table whose first line that holds gives its number

pub data Line : Type 1 where
  line : ℕ → Type 0 → Line

-- n is the number of the first line that holds, and d where none does
abbrev pub First : List Line → ℕ → ℕ → Type 0
First [] d n = n ≡ d
First (line k P ∷ t) d n = (P × (n ≡ k)) ⊎ ((P → ⊥) × First t d n)

pub first_line : {P : Type 0} (b : Bool) (k : ℕ) (t : List Line) (d n : ℕ) → Says b P → First t d n → First (line k P ∷ t) d (cond b k n)
first_line true k t d n s f = inl (s.holds refl, refl)
first_line false k t d n s f = inr (s.fails refl, f)

-- there is one such number
pub first_one : (t : List Line) (d n m : ℕ) → First t d n → First t d m → n ≡ m
first_one [] d n m f g = f ∙ sym g
first_one (line k P ∷ t) d n m (inl f) (inl g) = f.1 ∙ sym g.1
first_one (line k P ∷ t) d n m (inl f) (inr g) = absurd (g.0 f.0)
first_one (line k P ∷ t) d n m (inr f) (inl g) = absurd (f.0 g.0)
first_one (line k P ∷ t) d n m (inr f) (inr g) = first_one t d n m f.1 g.1

-- a line whose number isn't given doesn't hold
pub passed_over : {P : Type 0} {k : ℕ} (t : List Line) (d n : ℕ) → (n ≡ k → ⊥) → First (line k P ∷ t) d n → (P → ⊥) × First t d n
passed_over t d n h (inl f) = absurd (h f.1)
passed_over t d n h (inr f) = f

-- the number given lies where all the numbers of the table lie
abbrev pub Inside : ℕ → ℕ → List Line → ℕ → Type 0
Inside lo hi [] d = (lo ≤ d) × (d ≤ hi)
Inside lo hi (line k P ∷ t) d = (lo ≤ k) × (k ≤ hi) × Inside lo hi t d

pub first_inside : (lo hi : ℕ) (t : List Line) (d n : ℕ) → Inside lo hi t d → First t d n → (lo ≤ n) × (n ≤ hi)
first_inside lo hi [] d n i f = (omega (arith, i.0, f), omega (arith, i.1, f))
first_inside lo hi (line k P ∷ t) d n i (inl f) = (omega (arith, i.0, f.1), omega (arith, i.1, f.1))
first_inside lo hi (line k P ∷ t) d n i (inr f) = first_inside lo hi t d n i.2 f.1
