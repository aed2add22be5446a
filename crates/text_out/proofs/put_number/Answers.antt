-- `text_out::put_number` meets its contract: the digits that `io::decimal` makes are the number's.
-- Assumes nothing.
use mathlib.Core.Path.{◌∙◌}
use native.Mathlib.Omega.{arith}
use Rattle.text_out.proofs.Laws.{decimal_is}
use Rattle.text_out.proofs.put_number.Goals as goal

pub returns : goal.returns
returns c =
    let d = c.decimal-k.ensures in
    let a = c.args in
    rw (← (d.digits ∙ decimal_is a.n _ (omega arith) d.len)) c.put.ensures
