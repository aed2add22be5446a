use borrow.Author.Rules.{rules}
use Rattle.index_set.proofs.Walking.{walk_start, walk_next, walk_full, walk_end}
use Rattle.index_set.proofs.marked.extend.Goals as goal

pub loop-word-init : goal.loop-word-init
loop-word-init c = walk_start _ _ _

pub returns-in_err-held : goal.returns-in_err-held
returns-in_err-held c = rw c.from_residual.ensures (walk_full c.loop-word.invariant c.loop-word-test.true c.add.ensures c.in_err-held.was)

pub loop-word-preserved : goal.loop-word-preserved
loop-word-preserved c =
    walk_next c.loop-word.invariant c.loop-word-test.true c.add.ensures _ c.in_ok-held.was (search rules) (search rules)

pub returns : goal.returns
returns c = walk_end c.loop-word.invariant c.loop-word-test.false
