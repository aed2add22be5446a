-- `text_out::put_named` meets its contract: two pieces written one after the other are one.
-- Assumes nothing.
use Rattle.text_out.proofs.Laws.{writes_then}
use Rattle.text_out.proofs.put_named.Goals as goal

pub returns : goal.returns
returns c =
    writes_then c.put-a.ensures c.put_number.ensures
