-- `ringlinden::ringlinden_list_slot` meets its contract: the numbers are those of the operation's answer. Assumes nothing.
use Rattle.ringlinden.proofs.ringlinden_list_slot.Goals as goal

pub returns : goal.returns
returns c = record { gives = record { answer = _; handed = c.tell.ensures; right = c.list_slot-listed.ensures.gives } }
