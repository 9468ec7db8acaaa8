-- What holds of each place below k and of k itself holds of each below k + 1. Assumes nothing.
use mathlib.Core.Path.{◌≡◌, sym, subst}
use mathlib.Core.Logic.{⊎_elim}
use Prim.Native.Nat.{ℕ, suc, ◌<◌}
use native.Mathlib.Nat.{eq-or-lt_of_le, le_of_suc-le-suc}

pub each : (P : ℕ → Type 0) (k : ℕ) → ((j : ℕ) → j < k → P j) → P k → (j : ℕ) → j < suc k → P j
each P k f p j h =
    ⊎_elim (λ (e : j ≡ k). subst P (sym e) p) (λ (l : j < k). f j l) (eq-or-lt_of_le (le_of_suc-le-suc h))
