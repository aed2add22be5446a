-- The indices of one word join after those of the words before it.
-- Assumes nothing.
use Rattle.index_set.proofs.Gathering.{front, Through}
use Rattle.index_set.proofs.gather.Given as goal

abbrev pub invariant-loop-i : goal.invariant-loop-i
invariant-loop-i l = Through l.bits (front l.initial.out l.n) l.end (front l.out l.held) l.i
