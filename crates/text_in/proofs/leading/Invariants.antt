-- `text_in::leading` meets its contract: the digits passed and those that follow here are all, and the first byte that is none ends them.
-- Assumes nothing.
use Rattle.std.proofs.Common.{◌≡◌, ◌+◌, drop}
use Rattle.text_in.specs.Numbers.{leading}
use Rattle.text_in.proofs.leading.Given as goal

abbrev pub invariant-loop-i : goal.invariant-loop-i
invariant-loop-i l = l.i + leading (drop l.i l.text) ≡ leading l.text
