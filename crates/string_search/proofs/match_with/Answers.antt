-- Marks that are all zero hold none.
-- Assumes nothing.
use Rattle.index_set.proofs.Marking.{blank}
use Rattle.string_search.proofs.match_with.Goals as goal

pub match_marked-requires : goal.match_marked-requires
match_marked-requires g c = (c.requires.ready, blank _ c.requires.few)
