-- Laws of an offset's slot and of the first method that a slot word stands for, one for each way out of their definitions.
-- Assumes nothing.
use Rattle.std.specs.Prelude.{None, Some}
use mathlib.Core.Path.{◌≡◌}
use mathlib.Core.List.{List}
use Prim.Native.Nat.{ℕ, ◌+◌, ◌-◌, ◌*◌, ◌/◌, ◌≤◌, ◌<◌}
use native.Mathlib.Nat.{add-zero}
use lib.ListN.{length, get_or}
use borrow.Author.Tests.{lt-ltb, le-ltb, le-leb, lt-leb}
use Rattle.code_table.specs.Slots.{shared}
use Rattle.insn_locator.specs.Locate.{slot_at, first_of}

module _ (base : ℕ) (slots : List ℕ) (t : ℕ) where
  pub slot_below : t / 16 < base → 0 ≡ slot_at base slots t
  unfolding slot_at
  slot_below h = simp (lt-leb base (t / 16) h)

  pub slot_from : base ≤ t / 16 → get_or slots (t / 16 - base) 0 ≡ slot_at base slots t
  unfolding slot_at
  slot_from h = simp (le-leb base (t / 16) h)

module _ (ws : List ℕ) (v : ℕ) where
  pub first_single : v < shared → Some (v - 1) ≡ first_of ws v
  unfolding first_of
  first_single h = simp (lt-ltb v shared h)

  pub first_outside : shared ≤ v → length ws < 3 * (v - shared) + 3 → None ≡ first_of ws v
  unfolding first_of
  first_outside h k = simp (le-ltb v shared h, lt-leb (3 * (v - shared) + 3) (length ws) k)

  pub first_shared : shared ≤ v → 3 * (v - shared) + 3 ≤ length ws → Some (get_or ws (3 * (v - shared)) 0) ≡ first_of ws v
  unfolding first_of
  first_shared h k = simp (le-ltb v shared h, le-leb (3 * (v - shared) + 3) (length ws) k, add-zero)
