-- `words::set_all` meets its contract: the numbers passed are v.
-- Assumes nothing.
use mathlib.Core.Path.{◌≡◌}
use lib.ListN.{replicate}
use lib.Seq.{paste}
use Rattle.words.proofs.set_all.Given as goal

abbrev pub invariant-loop-x : goal.invariant-loop-x
invariant-loop-x g l = l.x-items ≡ paste l.initial.x-items 0 (replicate l.x-index l.v) l.x-index
