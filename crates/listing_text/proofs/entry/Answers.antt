-- `listing_text::entry` meets its contract: the pieces written into cleared bytes are the line's text in its order, and the
-- line's end decides whether it fits.
-- Assumes nothing.
use mathlib.Core.List.{◌++◌}
use Rattle.text_out.specs.Text.{decimal}
use Rattle.text_out.proofs.Laws.{writes_then, writes_named, text_out}
use Rattle.listing_text.specs.Text.{mids_text, off=, idx=, mids=, entry_out}
use Rattle.listing_text.proofs.entry.Goals as goal

pub returns : goal.returns
unfolding entry_out
returns c =
    let a = c.args in
    text_out a.out.now (off= ++ decimal a.off ++ idx= ++ decimal a.idx ++ mids= ++ mids_text a.mids.now)
    c.clear.ensures
    (writes_then
    (writes_then
    (writes_named idx= (decimal a.idx) c.put_named-a.ensures c.put_named-b.ensures)
    c.put-c.ensures)
    c.put_mids-d.ensures)
    c.end_line.ensures
