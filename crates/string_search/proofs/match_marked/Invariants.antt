-- Marked or held are the owners of the finds before `from`, and the others are still to come; where no more is found the marks are read off.
-- Assumes nothing.
use Prim.Native.Nat.{◌-◌, ◌≤◌}
use mathlib.Core.Path.{◌≡◌}
use lib.ListN.{length}
use Rattle.index_set.specs.Marked.{set_words}
use Rattle.index_set.proofs.Marking.{Marking}
use Rattle.string_search.specs.Search.{OwnsFrom}
use Rattle.string_search.specs.Steps.{OwnsAsked}
use Rattle.string_search.proofs.match_marked.Given as goal

abbrev pub invariant-loop-at : goal.invariant-loop-at
invariant-loop-at l =
    let a = l.asked in
    Marking (OwnsAsked a) (OwnsFrom a.file.now a.keys.now a.query.now a.end l.from) (length l.initial.out) l.n (set_words l.marks l.out) × (l.from ≤ a.end)
    × (length l.marks ≡ length l.initial.marks)

abbrev pub decreases-loop-at : goal.decreases-loop-at
decreases-loop-at l = l.asked.end - l.from
