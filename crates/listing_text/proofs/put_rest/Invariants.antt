-- `listing_text::put_rest` meets its contract: the methods passed are written, each with its comma.
-- Assumes nothing.
use Rattle.std.proofs.Common.{take}
use Rattle.listing_text.specs.Text.{more}
use Rattle.text_out.specs.Write.{Writes}
use Rattle.listing_text.proofs.put_rest.Given as goal

abbrev pub invariant-loop-method : goal.invariant-loop-method
invariant-loop-method l = Writes l.initial.out l.at (more (take l.method-index l.methods)) l.out l.p
