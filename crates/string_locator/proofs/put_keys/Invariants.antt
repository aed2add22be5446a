-- `string_locator::put_keys` meets its contract: the words passed are the keys of as many strings.
-- Assumes nothing.
use Rattle.string_locator.specs.Map.{keys_of}
use lib.ListN.{drop}
use mathlib.Core.List.{◌++◌}
use mathlib.Core.Path.{◌≡◌}
use Rattle.string_locator.proofs.put_keys.Given as goal

abbrev pub invariant-loop-i : goal.invariant-loop-i
invariant-loop-i l = l.keys ≡ keys_of l.file l.table l.i ++ drop l.i l.initial.keys
