-- `map_entry` meets its contract: an entry passed leaves the search over those after it.
-- Assumes nothing.
use Prim.Native.Nat.{◌-◌}
use Rattle.class_data.proofs.Entry.{Searching}
use Rattle.class_data.proofs.map_entry.Given as goal

abbrev pub invariant-loop : goal.invariant-loop
invariant-loop l = Searching l.buf l.mapoff l.size l.at (l.size - l.counter)
