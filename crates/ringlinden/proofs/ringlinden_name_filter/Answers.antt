-- `ringlinden::ringlinden_name_filter` meets its contract: the numbers are those of the operation's answer. Assumes nothing.
use Rattle.ringlinden.proofs.ringlinden_name_filter.Goals as goal

pub returns : goal.returns
returns c = record { gives = record { answer = _; handed = c.tell.ensures; right = c.locate_name_indices-answer.ensures.gives } }
