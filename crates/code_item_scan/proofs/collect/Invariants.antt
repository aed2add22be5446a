-- The hits stored and those still to be found are all, at every turn.
-- Assumes nothing.
use Prim.Native.Nat.{◌-◌, ◌≤◌}
use Rattle.kinds.specs.Kinds.{meant}
use Rattle.code_item_scan.specs.Scan.{is_in, sought, hits_by, hits_of}
use Rattle.code_item_scan.specs.Answers.{hit_words}
use Rattle.code_item_scan.proofs.Whole.{Going}
use Rattle.code_item_scan.proofs.collect.Given as goal

abbrev pub invariant-loop-hit : goal.invariant-loop-hit
invariant-loop-hit l = Going (hits_of l.search.file.now (meant l.kind) l.search.wanted.now l.search.start l.search.end) (hit_words l.initial.offs l.initial.marks) (hit_words l.offs l.marks)
    (hits_by l.search.file.now (sought (meant l.kind) (λ x. is_in x l.search.wanted.now) l.at l.search.end)) l.n
    × (l.at ≤ l.search.end) × (l.n ≤ l.at)

abbrev pub decreases-loop-hit : goal.decreases-loop-hit
decreases-loop-hit l = l.search.end - l.at
