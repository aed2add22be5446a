-- `byte_search::plain` meets its contract: the loop has passed nothing that counts.
-- Assumes nothing.
use Rattle.byte_search.specs.Steps.{Passed}
use Rattle.byte_search.proofs.plain.Given as goal

abbrev pub invariant-loop-at : goal.invariant-loop-at
invariant-loop-at g l = Passed (g.W.Sought.kind l.what l.s) l.from l.to l.at
