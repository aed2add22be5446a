-- `ringlinden::ringlinden_type_groups` meets its contract: the numbers are those of the operation's answer, and the
-- header record is that of the words lent. Assumes nothing.
use Rattle.ringlinden.proofs.ringlinden_type_groups.Goals as goal

pub returns : goal.returns
returns c = record { gives = record { answer = _; handed = c.tell.ensures; right = rw c.header_of.ensures at c.build_map-answer.ensures.gives } }
