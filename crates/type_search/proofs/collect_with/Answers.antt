-- Marks that are all zero hold none.
-- Assumes nothing.
use Rattle.index_set.proofs.Marking.{blank}
use Rattle.type_search.proofs.collect_with.Goals as goal

pub collect_marked-requires : goal.collect_marked-requires
collect_marked-requires g c = (c.requires.ready, blank _ c.requires.few)
