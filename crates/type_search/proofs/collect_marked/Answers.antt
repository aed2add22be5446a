use borrow.Author.Rules.{rules}
use mathlib.Core.Path.{refl}
use Rattle.word_set.specs.Steps.{over}
use Rattle.index_set.proofs.Marking.{mark_start, mark_end}
use Rattle.type_search.proofs.Types.{turn, no_room, types_none}
use native.Mathlib.Omega.{arith}
use Rattle.type_search.proofs.collect_marked.Goals as goal

pub loop-string-init : goal.loop-string-init
loop-string-init c = (mark_start _ c.requires.1 c.requires.0, search rules, refl)

pub returns-in_err-n : goal.returns-in_err-n
returns-in_err-n c =
    over c.from_residual.ensures
    (no_room _ _ _ c.loop-string-test.true c.loop-string.invariant.0 _ c.slice-types.ensures c.extend.ensures c.in_err-n.was)

pub loop-string-preserved : goal.loop-string-preserved
loop-string-preserved c = (
  turn _ _ _ c.loop-string-test.true c.loop-string.invariant.0 _ c.slice-types.ensures c.extend.ensures _ c.in_ok-n.was,
  omega arith,
  omega (arith, c.extend.auto, c.loop-string.invariant.2),
)

pub returns : goal.returns
returns c = mark_end _ c.loop-string.invariant.0 (types_none _ _ _ c.loop-string-test.false) c.gather.ensures
