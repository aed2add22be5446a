-- `index_set::gather_word` meets its contract: each turn takes the lowest bit left, which is that of x. Assumes nothing.
use Prim.Native.Nat.{◌+◌, ◌-◌, ◌*◌}
use Rattle.index_set.proofs.Gathering.{front, Midway}
use Rattle.index_set.proofs.gather_word.Given as goal

abbrev pub invariant-loop-w : goal.invariant-loop-w
invariant-loop-w l = Midway l.bits l.i (front l.initial.out l.n) (front l.out l.held) l.w l.x

abbrev pub decreases-loop-w : goal.decreases-loop-w
decreases-loop-w l = 64 * l.i + 64 - l.x
