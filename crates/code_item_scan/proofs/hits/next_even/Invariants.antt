-- Before each start that is looked at there is no hit of the kind, so the first that is one is the first of all.
-- Assumes nothing.
use Prim.Native.Nat.{◌-◌}
use Rattle.kinds.specs.Kinds.{meant}
use Rattle.code_item_scan.proofs.Starts.{Passed}
use Rattle.code_item_scan.proofs.hits.next_even.Given as goal

abbrev pub invariant-loop-at : goal.invariant-loop-at
invariant-loop-at l = Passed l.s (meant l.kind) l.table l.end l.start l.at

abbrev pub decreases-loop-at : goal.decreases-loop-at
decreases-loop-at l = l.end - l.at
