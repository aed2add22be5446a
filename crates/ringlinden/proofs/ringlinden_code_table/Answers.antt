-- `ringlinden::ringlinden_code_table` meets its contract: the numbers are those of the operation's answer, and the
-- header record is that of the words lent. Assumes nothing.
use Rattle.ringlinden.proofs.ringlinden_code_table.Goals as goal

pub returns : goal.returns
returns c =
    let told = c.tell_code_table.ensures in
    let q = c.parse-answer in
    record {
      gives = record { answer = q.result; handed = told; right = rw c.header_of.ensures at q.ensures.gives };
      region_inside = record { answer = q.result; handed = told; right = q.ensures.region_inside };
    }
