-- `text_out::end_line` meets its contract: a line feed that is lost lies past the bytes, and then all are cleared.
-- Assumes nothing.
use native.Mathlib.Omega.{arith}
use Rattle.text_out.proofs.Laws.{ends_fit, ends_over}
use Rattle.text_out.proofs.end_line.Goals as goal

pub returns-then-out-end : goal.returns-then-out-end
returns-then-out-end c =
    ends_over c.put-end.ensures _ (omega arith) c.clear.ensures

pub returns : goal.returns
returns c = ends_fit c.put-end.ensures (omega arith)
