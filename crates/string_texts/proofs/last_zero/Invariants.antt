-- `last_zero` meets its contract: from the end back to i no byte is zero.
-- Assumes nothing.
use Prim.Native.Nat.{ℕ, ◌≤◌, ◌<◌}
use mathlib.Core.Logic.{◌≢◌}
use lib.ListN.{length}
use Rattle.dalvik.specs.Numbers.{byte}
use Rattle.string_texts.proofs.last_zero.Given as goal

abbrev pub invariant-loop-i : goal.invariant-loop-i
invariant-loop-i l = (k : ℕ) → l.i ≤ k → k < length l.file → byte l.file k ≢ 0
