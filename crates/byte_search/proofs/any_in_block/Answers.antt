use Rattle.byte_search.proofs.Firsts.{one_tested}
use Rattle.byte_search.proofs.any_in_block.Goals as goal

pub loop-i-preserved : goal.loop-i-preserved
loop-i-preserved g c = one_tested c.loop-i.invariant c.lane-any.ensures
