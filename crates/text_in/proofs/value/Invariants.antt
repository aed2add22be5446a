-- `text_in::value` meets its contract: the value so far with the digits left after it is the value of all; once it passes 2^32 - 1 it stays
-- above.
-- Assumes nothing.
use Rattle.std.proofs.Common.{◌≡◌, ◌<◌, drop}
use Rattle.text_in.specs.Numbers.{value_from}
use Rattle.text_in.proofs.value.Given as goal

abbrev pub invariant-loop-b : goal.invariant-loop-b
invariant-loop-b l = (l.v < 4294967296) × (value_from l.v (drop l.b-index l.digits) ≡ value_from 0 l.digits)
