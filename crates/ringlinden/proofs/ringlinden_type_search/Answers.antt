-- `ringlinden::ringlinden_type_search` meets its contract: the numbers are those of the operation's answer. Assumes nothing.
use Rattle.ringlinden.proofs.ringlinden_type_search.Goals as goal

pub returns : goal.returns
returns c = record { gives = record { answer = _; handed = c.tell.ensures; right = c.locate-answer.ensures.gives } }
