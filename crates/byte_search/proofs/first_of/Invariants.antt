-- `byte_search::first_of` meets its contract: `first` is the first of the places below i that counts.
-- Assumes nothing.
use Rattle.byte_search.proofs.Firsts.{Lanes}
use Rattle.byte_search.proofs.first_of.Given as goal

abbrev pub invariant-loop-i : goal.invariant-loop-i
invariant-loop-i g l = Lanes (g.W.Sought.kind l.what l.s) l.at l.n l.i l.first
