-- `text::count_up` meets its contract: each turn of the loop makes one step of the definition.
-- Assumes nothing.
use Rattle.std.proofs.Common.{◌≡◌}
use Rattle.sample.specs.Steps.{counted_up}
use Rattle.sample.proofs.text.count_up.Given as goal

abbrev pub invariant-loop-k : goal.invariant-loop-k
invariant-loop-k l = l.list ≡ counted_up l.initial.list l.k
