-- Marked or held are the types of the strings before this one, and those of the others are still to come.
-- Assumes nothing.
use Rattle.groups.specs.Built.{group_words}
use Prim.Native.Nat.{◌≤◌}
use mathlib.Core.Path.{◌≡◌}
use lib.ListN.{length, drop}
use Rattle.index_set.specs.Marked.{set_words}
use Rattle.index_set.proofs.Marking.{Marking}
use Rattle.type_search.specs.Steps.{TypesOf}
use Rattle.type_search.proofs.collect_marked.Given as goal

abbrev pub invariant-loop-string : goal.invariant-loop-string
invariant-loop-string l = Marking (TypesOf (group_words l.str_offsets l.type_idxs) l.found) (TypesOf (group_words l.str_offsets l.type_idxs) (drop l.string-index l.found))
    (length l.initial.out) l.n (set_words l.marks l.out) × (l.string-index ≤ length l.found) × (length l.marks ≡ length l.initial.marks)
