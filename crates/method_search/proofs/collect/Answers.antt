use Rattle.method_search.proofs.Fitting.{from_start, recount, turn, no_room, none_from}
use Rattle.word_set.proofs.Collected.{collect_start, collect_end}
use Rattle.word_set.specs.Steps.{all, over}
use mathlib.Core.Path.{refl}
use Rattle.method_search.proofs.collect.Goals as goal

pub loop-i-init : goal.loop-i-init
loop-i-init c = from_start (collect_start _ c.requires.1)

pub returns-in_err-n : goal.returns-in_err-n
returns-in_err-n c =
    recount c.asked_count-count.ensures
    (over c.from_residual.ensures (no_room _ _ c.loop-i.invariant c.loop-i-test.true c.method_step.ensures c.in_err-n.was))

pub loop-i-preserved : goal.loop-i-preserved
loop-i-preserved c = turn _ _ c.loop-i.invariant c.loop-i-test.true c.method_step.ensures c.in_ok-n.was

pub returns : goal.returns
returns c =
    recount c.asked_count-count.ensures
    (all _ refl (collect_end c.loop-i.invariant (none_from _ _ _ c.loop-i-test.false) _ refl))
