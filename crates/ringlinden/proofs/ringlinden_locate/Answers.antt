-- `ringlinden::ringlinden_locate` meets its contract: the numbers are those of the operation's answer. Assumes nothing.
use Rattle.ringlinden.proofs.ringlinden_locate.Goals as goal

pub returns : goal.returns
returns c =
    let q = c.locate-answer in
    record {
      gives = record { answer = q.result; handed = c.tell.ensures; right = q.ensures.gives };
      alone = record { answer = q.result; handed = c.tell.ensures; right = q.ensures.alone };
    }
