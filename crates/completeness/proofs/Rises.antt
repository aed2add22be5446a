-- A list that rises from a bound on rises, and so no two of its entries are equal.
-- Assumes nothing.
use Prim.Native.Nat.{ℕ, zero, suc, ◌≤◌, ◌<◌}
use native.Mathlib.Omega.{arith}
use mathlib.Core.Path.{◌≡◌}
use mathlib.Core.Logic.{⊎_elim}
use mathlib.Core.List.{List}
use lib.ListN.{length, get_or}
use Rattle.code_item_scan.proofs.Listed.{Above, no_more, one_more}
use Rattle.completeness.proofs.Outcomes.{Rising}
use Rattle.completeness.proofs.Tests.{eq_or_not, lt_or_le}

above_at : {b : ℕ} {ts : List ℕ} → Above b ts → (i : ℕ) → i < length ts → b ≤ get_or ts i 0
above_at no_more i h = absurd (omega arith)
above_at (one_more k o) zero h = k
above_at (one_more k o) (suc i) h = omega (arith, above_at o i (omega arith))

pub above_rising : {b : ℕ} {ts : List ℕ} → Above b ts → Rising ts
unfolding Rising
above_rising no_more i j h l = absurd (omega arith)
above_rising (one_more k o) i zero h l = absurd (omega arith)
above_rising (one_more k o) zero (suc j) h l = above_at o j (omega arith)
above_rising (one_more k o) (suc i) (suc j) h l = above_rising o i j (omega arith) (omega arith)

-- no two of them are equal
pub rising_once : (ts : List ℕ) → Rising ts → (k l : ℕ) → k < length ts → l < length ts → get_or ts k 0 ≡ get_or ts l 0 → k ≡ l
unfolding Rising
rising_once ts r k l hk hl e =
    ⊎_elim
    (λ (h : k < l). absurd (omega (arith, r k l h hl)))
    (λ (h : l ≤ k). ⊎_elim (λ (q : k ≡ l). q) (λ (q : k ≡ l → ⊥). absurd (omega (arith, r l k (omega arith) hk))) (eq_or_not k l))
    (lt_or_le k l)
