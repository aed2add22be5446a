-- `code_item_scan::skip` meets its contract: what the byte search passes are starts of no string instruction.
-- Assumes nothing.
use Rattle.code_item_scan.proofs.Starts.{skipped_first}
use Rattle.code_item_scan.proofs.hits.skip.Goals as goal

pub returns : goal.returns
returns c = skipped_first _ _ _ _ c.requires.0 c.requires.1 c.memchr2.ensures
