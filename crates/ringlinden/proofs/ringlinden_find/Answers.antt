-- `ringlinden::ringlinden_find` meets its contract: the numbers are those of the operation's answer, and the
-- header record is that of the words lent. Assumes nothing.
use Rattle.ringlinden.proofs.ringlinden_find.Goals as goal

pub returns : goal.returns
returns c =
    let same = c.header_of.ensures in
    let told = c.tell_found.ensures in
    let q = c.find-answer in
    record {
      gives = record { answer = q.result; handed = told; right = rw same at q.ensures.gives };
      demand_3 = record { answer = q.result; handed = told; right = rw same at q.ensures.demand_3 };
      never_outside = record { answer = q.result; handed = told; right = q.ensures.never_outside };
      alone = record { answer = q.result; handed = told; right = rw same at q.ensures.alone };
    }
