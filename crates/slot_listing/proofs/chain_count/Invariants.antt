-- The methods counted and those of the share that is left make up the count.
-- Assumes nothing.
use mathlib.Core.Path.{◌≡◌}
use Prim.Native.Nat.{◌+◌, ◌/◌, ◌≤◌}
use lib.ListN.{length}
use Rattle.slot_listing.specs.Steps.{methods_of, count_of}
use Rattle.slot_listing.proofs.Chains.{more}
use Rattle.slot_listing.proofs.chain_count.Given as goal

abbrev pub invariant-loop-at : goal.invariant-loop-at
invariant-loop-at l = (count_of (methods_of l.shares l.k) ≡ more l.n (count_of (methods_of l.shares l.at))) × (l.n + l.at ≤ l.k) × (l.room ≡ length l.shares / 3)

abbrev pub decreases-loop-at : goal.decreases-loop-at
decreases-loop-at l = l.at
