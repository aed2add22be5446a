use Rattle.byte_search.proofs.Firsts.{all_lanes}
use Rattle.byte_search.proofs.first_of.Goals as goal

pub returns : goal.returns
returns g c = all_lanes c.loop-i-test.false c.loop-i.invariant
