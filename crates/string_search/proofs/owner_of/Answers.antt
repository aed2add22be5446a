-- The place of the least key past the find is found by halving, and the key before it owns.
-- Assumes nothing.
use Rattle.word_set.proofs.Search.{place_of_number}
use Rattle.string_search.proofs.Owners.{owner_none, owner_at}
use Rattle.string_search.proofs.owner_of.Goals as goal

pub returns-then-n-eq0 : goal.returns-then-n-eq0
returns-then-n-eq0 c = owner_none _ _ _ c.requires.0 (place_of_number c.place-n.ensures) c.if-n-eq0.true

pub returns : goal.returns
returns c = owner_at _ _ _ c.requires.0 (place_of_number c.place-n.ensures) c.if-n-eq0.false
