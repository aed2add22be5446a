-- A test of each number of a stretch is one test, which computes.
-- Assumes nothing.
use mathlib.Core.Path.{subst}
use mathlib.Core.Bool.{Bool, true, false, ◌&&◌}
use mathlib.Core.Logic.{⊎_elim}
use Prim.Native.Nat.{ℕ, zero, suc, ◌+◌, ◌≤◌, ◌<◌}
use native.Mathlib.Omega.{arith}
use native.Mathlib.Nat.{eq-or-lt_of_le}
use lib.Dec.{T}

and_left : (a b : Bool) → T (a && b) → T a
and_left true b t = tt
and_left false b t = t

and_right : (a b : Bool) → T (a && b) → T b
and_right true b t = t
and_right false b t = absurd t

-- the test passes at each of the n numbers from lo
abbrev pub upto : (ℕ → Bool) → ℕ → ℕ → Bool
upto p zero lo = true
upto p (suc n) lo = p lo && upto p n (suc lo)

pub upto_at : (p : ℕ → Bool) (n lo x : ℕ) → T (upto p n lo) → lo ≤ x → x < lo + n → T (p x)
upto_at p zero lo x t h k = absurd (omega arith)
upto_at p (suc n) lo x t h k =
    ⊎_elim (λ e. subst (λ (y : ℕ). T (p y)) e (and_left (p lo) (upto p n (suc lo)) t))
    (λ l. upto_at p n (suc lo) x (and_right (p lo) (upto p n (suc lo)) t) l (omega arith)) (eq-or-lt_of_le h)
