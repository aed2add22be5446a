-- A rising list tells by halving whether it has an index; nothing asked is met by any.
-- Assumes nothing.
use Rattle.method_search.proofs.Steps.{asked_among}
use Rattle.method_search.proofs.among.Goals as goal

pub returns-else-not-asked : goal.returns-else-not-asked
returns-else-not-asked c = asked_among _ _ _ _ c.if-not-asked.false c.requires c.contains.ensures
