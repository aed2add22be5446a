-- `string_data::first_zero` meets its contract: the search ends at the first zero, or at the file's end.
-- Assumes nothing.
use Rattle.string_data.proofs.Laws.{zero_found, zero_nowhere}
use Rattle.string_data.proofs.first_zero.Goals as goal

pub returns-then-at-file : goal.returns-then-at-file
returns-then-at-file c = zero_found _ _ _ c.memchr-at.ensures c.if-at-file.true

pub returns-else-at-file : goal.returns-else-at-file
returns-else-at-file c = zero_nowhere _ _ _ c.memchr-at.ensures c.if-at-file.false
