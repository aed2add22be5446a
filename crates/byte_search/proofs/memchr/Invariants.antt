-- `byte_search::memchr` meets its contract: the loop has passed nothing that counts.
-- Assumes nothing.
use Rattle.byte_search.specs.Steps.{Passed}
use Rattle.byte_search.specs.First.{Either}
use Prim.Native.Nat.{◌-◌}
use Rattle.byte_search.proofs.memchr.Given as goal

abbrev pub invariant-loop-at : goal.invariant-loop-at
invariant-loop-at l = Passed (Either l.a l.a l.s) l.from l.to l.at

abbrev pub decreases-loop-at : goal.decreases-loop-at
decreases-loop-at l = l.to - l.at
