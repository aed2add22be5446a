use mathlib.Core.Path.{refl}
use Rattle.word_set.specs.Steps.{over}
use Rattle.index_set.proofs.Marking.{mark_start, mark_end}
use Rattle.string_search.proofs.Finds.{none_owned}
use Rattle.string_search.proofs.Matching.{found_at, found_none, turn, no_room}
use native.Mathlib.Omega.{arith}
use Rattle.string_search.proofs.match_marked.Goals as goal

pub loop-at-init : goal.loop-at-init
loop-at-init c = (mark_start _ c.requires.1 c.requires.0.clear, c.requires.0.area.forward, refl)

pub returns : goal.returns
returns c = mark_end _ c.loop-at.invariant.0 (none_owned (found_none c.in_default.is c.next_find.ensures)) c.gather.ensures

pub returns-in_err-n : goal.returns-in_err-n
returns-in_err-n c =
    over c.from_residual.ensures
    (no_room c.loop-at.invariant.0 (found_at _ c.in-Some.is c.next_find.ensures) c.match_step.ensures c.in_err-n.was)

pub loop-at-preserved : goal.loop-at-preserved
loop-at-preserved c =
    let f = found_at _ c.in-Some.is c.next_find.ensures in (
      turn c.loop-at.invariant.0 f c.match_step.ensures c.in_ok-n.was,
      f.occurs.inside,
      omega (arith, c.match_step.auto, c.loop-at.invariant.2),
    )
