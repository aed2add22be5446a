-- `text_out::put` meets its contract: the bytes passed are written, and the place is the one after them.
-- Assumes nothing.
use Rattle.std.proofs.Common.{take}
use Rattle.text_out.specs.Write.{Writes}
use Rattle.text_out.proofs.put.Given as goal

abbrev pub invariant-loop-b : goal.invariant-loop-b
invariant-loop-b l = Writes l.initial.out l.at (take l.b-index l.bytes) l.out l.p
