-- `listing_text::put_mids` meets its contract: no method is `-`; otherwise it is the first, and then the rest with their commas.
-- Assumes nothing.
use Rattle.text_out.proofs.Laws.{writes_then}
use Rattle.listing_text.proofs.TextLaws.{mids_some}
use Rattle.listing_text.proofs.put_mids.Goals as goal

pub returns : goal.returns
returns c = rw (mids_some _ _ _ c.in-Some.ensures.cases.0) (writes_then c.put_number-a.ensures c.put_rest.ensures)
