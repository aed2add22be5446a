-- Each start that the loop passes has an index that the table doesn't hold, so it is no hit of any kind.
-- Assumes nothing.
use Prim.Native.Nat.{◌-◌}
use Rattle.code_item_scan.specs.Steps.{SkippedEven}
use Rattle.code_item_scan.proofs.hits.skip_even.Given as goal

abbrev pub invariant-loop-at : goal.invariant-loop-at
invariant-loop-at l = SkippedEven l.s l.end l.table l.start l.at

abbrev pub decreases-loop-at : goal.decreases-loop-at
decreases-loop-at l = l.end - l.at
