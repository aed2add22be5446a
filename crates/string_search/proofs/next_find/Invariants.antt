-- `string_search::next_find` meets its contract: between two places of the query's first and last byte no occurrence stands.
-- Assumes nothing.
use Rattle.string_search.proofs.Finds.{Ahead}
use Prim.Native.Nat.{◌-◌}
use Rattle.string_search.proofs.next_find.Given as goal

abbrev pub invariant-loop-at : goal.invariant-loop-at
invariant-loop-at l = Ahead l.file l.query l.end l.from l.at

abbrev pub decreases-loop-at : goal.decreases-loop-at
decreases-loop-at l = l.end - l.at
