use Rattle.string_search.proofs.Finds.{nearer, ahead_start, ahead_next, ahead_found, ahead_none}
use Rattle.string_search.specs.Steps.{at_place, no_more}
use mathlib.Core.Path.{refl}
use Rattle.string_search.proofs.next_find.Goals as goal

pub loop-at-init : goal.loop-at-init
loop-at-init c =
    let p = c.requires in
    ahead_start p.1 p.0.inside c.pair-at.ensures

pub returns-then-stands_at : goal.returns-then-stands_at
returns-then-stands_at c =
    let p = c.requires in
    let k = c.loop-at in
    at_place _ refl
    (ahead_found p.1 p.0.inside k.invariant c.loop-at-test.true (c.stands_at.ensures.yes c.if-stands_at.true))

pub loop-at-smaller : goal.loop-at-smaller
loop-at-smaller c =
    let p = c.requires in
    nearer c.loop-at.at _ p.0.inside c.loop-at-test.true c.pair-at-in-loop-at.ensures

pub loop-at-preserved : goal.loop-at-preserved
loop-at-preserved c =
    let p = c.requires in
    let k = c.loop-at in
    ahead_next p.1 p.0.inside k.invariant c.loop-at-test.true
    (c.stands_at.ensures.no c.if-stands_at.false) c.pair-at-in-loop-at.ensures

pub returns : goal.returns
returns c =
    let p = c.requires in
    no_more refl (ahead_none p.1 p.0.inside c.loop-at.invariant c.loop-at-test.false)
