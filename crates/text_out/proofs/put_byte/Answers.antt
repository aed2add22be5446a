-- `text_out::put_byte` meets its contract: a byte inside is stored, and one past the end is lost.
-- Assumes nothing.
use Rattle.text_out.proofs.Laws.{byte_fits, byte_over}
use Rattle.text_out.proofs.put_byte.Goals as goal

pub returns-then-at-out : goal.returns-then-at-out
returns-then-at-out c = byte_fits _ _ _ c.if-at-out.true

pub returns : goal.returns
returns c = byte_over _ _ _ c.if-at-out.false
