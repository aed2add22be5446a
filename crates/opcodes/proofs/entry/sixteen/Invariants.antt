-- The word holds the entries from place i on; each turn puts the one before it below them.
-- Assumes nothing.
use Rattle.opcodes.proofs.Packed.{Held}
use Rattle.opcodes.proofs.entry.sixteen.Given as goal

abbrev pub invariant-loop-i : goal.invariant-loop-i
invariant-loop-i l = Held l.from l.i l.word
