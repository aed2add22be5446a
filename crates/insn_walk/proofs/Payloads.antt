-- Laws of a payload's length: it is told by the high byte where the low one is 0, and no payload opens elsewhere.
-- Assumes nothing.
use mathlib.Core.Path.{◌≡◌, ◌∙◌}
use mathlib.Core.Logic.{◌≢◌}
use mathlib.Core.List.{List}
use Prim.Native.Nat.{ℕ, ◌+◌, ◌*◌, ◌≤◌}
use native.Mathlib.Omega.{arith}
use lib.ListN.{length}
use borrow.Author.Tests.{eq-eqb, ne_eqb}
use Rattle.dalvik.specs.Numbers.{byte}
use Rattle.structs.proofs.Laws.{byte_past}
use Rattle.insn_walk.specs.Walk.{units_by, payload_units}

module _ (s : List ℕ) (p : ℕ) where
  pub units_low : byte s p ≡ 0 → payload_units s p ≡ units_by s p (byte s (p + 1))
  unfolding payload_units
  units_low e = rw (eq-eqb (byte s p) 0 e)

  pub none_low : byte s p ≢ 0 → payload_units s p ≡ 0
  unfolding payload_units
  none_low n = rw (ne_eqb (byte s p) 0 n)

  pub none_outside : length s ≤ p → payload_units s p ≡ 0
  none_outside h = units_low (byte_past s p h) ∙ rw (byte_past s (p + 1) (omega arith))

-- a length covers its header, of 4, 4 and 8 bytes: what has its header cut off passes the end
covers_header : (s : List ℕ) (p : ℕ) → (4 ≤ 2 * units_by s p 1) × (4 ≤ 2 * units_by s p 2) × (8 ≤ 2 * units_by s p 3)
covers_header s p = (omega arith, omega arith, omega arith)
