-- The keys before this one are good, and those from it on are asked to be above them.
-- Assumes nothing.
use Rattle.string_search.specs.Keys.{good_from}
use lib.ListN.{length, drop}
use mathlib.Core.Path.{◌≡◌}
use Prim.Native.Nat.{◌≤◌}
use Rattle.string_search.proofs.keys.keys_good.Given as goal

abbrev pub invariant-loop-key : goal.invariant-loop-key
invariant-loop-key l = (good_from l.least (drop l.key-index l.keys) ≡ good_from 0 l.keys) × (l.key-index ≤ length l.keys)
