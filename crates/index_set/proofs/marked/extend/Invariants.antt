-- The words before this one have joined, one after another.
-- Assumes nothing.
use Rattle.index_set.specs.Marked.{set_words}
use Rattle.index_set.proofs.Walking.{Walking}
use Rattle.index_set.proofs.marked.extend.Given as goal

abbrev pub invariant-loop-word : goal.invariant-loop-word
invariant-loop-word l = Walking (set_words l.initial.marks l.initial.out) l.n l.more (set_words l.marks l.out) l.held l.word-index
