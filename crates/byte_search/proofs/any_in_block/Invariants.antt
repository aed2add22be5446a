-- `byte_search::any_in_block` meets its contract: the test so far is 0 where none of the places below i counts, and only there.
-- Assumes nothing.
use Rattle.byte_search.specs.Steps.{Tested}
use Rattle.byte_search.proofs.any_in_block.Given as goal

abbrev pub invariant-loop-i : goal.invariant-loop-i
invariant-loop-i g l = Tested (g.W.Sought.kind l.what l.s) l.at l.i l.any
