-- `byte_search::skip` meets its contract: the loop has passed nothing that counts.
-- Assumes nothing.
use Rattle.byte_search.specs.Steps.{Passed}
use Prim.Native.Nat.{◌-◌}
use Rattle.byte_search.proofs.skip.Given as goal

abbrev pub invariant-loop-at : goal.invariant-loop-at
invariant-loop-at g l = Passed (g.W.Sought.kind l.what l.s) l.from l.to l.at

abbrev pub decreases-loop-at : goal.decreases-loop-at
decreases-loop-at g l = l.to - l.at
