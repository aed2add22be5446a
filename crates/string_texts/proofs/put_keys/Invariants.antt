-- `put_keys` meets its contract: the first fault of the strings left is that of all, and if there are words for all, those passed have their keys.
-- Assumes nothing.
use Rattle.string_texts.proofs.Keys.{Passed}
use Rattle.string_texts.proofs.put_keys.Given as goal

abbrev pub invariant-loop-i : goal.invariant-loop-i
invariant-loop-i l = Passed l.file l.table l.n l.initial.keys l.keys (record { last = l.last; i = l.i })
