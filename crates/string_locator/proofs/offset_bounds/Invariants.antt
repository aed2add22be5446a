-- `string_locator::offset_bounds` meets its contract: the bounds are those of the strings passed.
-- Assumes nothing.
use Rattle.string_locator.specs.Map.{least, greatest}
use mathlib.Core.Path.{◌≡◌}
use Rattle.string_locator.proofs.offset_bounds.Given as goal

abbrev pub invariant-loop-i : goal.invariant-loop-i
invariant-loop-i l = (l.least ≡ least l.file l.table l.i) × (l.greatest ≡ greatest l.file l.table l.i)
