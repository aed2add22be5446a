-- Two functions of an opcode that agree: one computed test at each of the 256.
-- Assumes nothing.
use Prim.Native.Nat.{ℕ, ◌<◌}
use native.Mathlib.Omega.{arith}
use mathlib.Core.Path.{◌≡◌}
use mathlib.Core.Bool.{Bool}
use lib.Dec.{T, eqb, eqb→eq}
use Rattle.words.proofs.Arms.{upto, upto_at}

abbrev pub agree : (ℕ → ℕ) → (ℕ → ℕ) → Bool
agree f g = upto (λ (op : ℕ). eqb (f op) (g op)) 256 0

pub everywhere : (f g : ℕ → ℕ) → T (agree f g) → (op : ℕ) → op < 256 → f op ≡ g op
everywhere f g t op h = eqb→eq (f op) (g op) (upto_at (λ (k : ℕ). eqb (f k) (g k)) 256 0 op t (omega arith) h)
