-- `ringlinden::ringlinden_string_bytes` meets its contract: the numbers are those of the operation's answer. Assumes nothing.
use Rattle.ringlinden.proofs.ringlinden_string_bytes.Goals as goal

pub returns : goal.returns
returns c = record { gives = record { answer = c.string_data-answer.result; handed = c.tell_string_text.ensures; right = c.string_data-answer.ensures } }
