-- `length_bytes` meets its contract: the bytes passed and those still to come are all.
-- Assumes nothing.
use Prim.Native.Nat.{◌-◌}
use mathlib.Core.Path.{◌≡◌}
use Rattle.string_locator.specs.LengthBytes.{length_bytes}
use Rattle.string_locator.proofs.LengthBytes.{passed}
use Rattle.string_locator.proofs.length_bytes.Given as goal

abbrev pub invariant-loop-at : goal.invariant-loop-at
invariant-loop-at l = passed (l.at - l.from) (length_bytes l.file l.at) ≡ length_bytes l.file l.from
