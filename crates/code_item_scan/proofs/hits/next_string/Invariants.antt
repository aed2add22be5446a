-- Before each start that is looked at there is no hit, so the first that is one is the first of all.
-- Assumes nothing.
use Prim.Native.Nat.{◌-◌}
use mathlib.Core.List.{[]}
use Rattle.dalvik.specs.Instructions.Kind.{strings}
use Rattle.code_item_scan.specs.Scan.{sought}
use Rattle.code_item_scan.specs.Next.{index_set_of, listed}
use Rattle.code_item_scan.proofs.Starts.{Came}
use Rattle.code_item_scan.proofs.hits.next_string.Given as goal

abbrev pub invariant-loop-at : goal.invariant-loop-at
invariant-loop-at l = Came l.s (sought strings (listed (index_set_of [] l.set.bits.now l.set.others l.set.words.now)) l.start l.end) l.at

abbrev pub decreases-loop-at : goal.decreases-loop-at
decreases-loop-at l = l.end - l.at
