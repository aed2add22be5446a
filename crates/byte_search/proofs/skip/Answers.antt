use Rattle.byte_search.proofs.Firsts.{pass_more}
use native.Mathlib.Omega.{arith}
use Rattle.byte_search.proofs.skip.Goals as goal

pub loop-at-preserved : goal.loop-at-preserved
loop-at-preserved g c = pass_more 16 c.loop-at.invariant (omega arith) (c.any_in_block.ensures.none c.if-any_in_block-ne0.false)
