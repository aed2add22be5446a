use mathlib.Core.Path.{sym, ◌∙◌}
use Rattle.code_item_scan.proofs.Starts.{finds_hit, finds_nothing, came_on, came_found, came_end, came_skipped, string_miss}
use Rattle.code_item_scan.proofs.Starts.{string_found}
use native.Mathlib.Omega.{arith}
use Rattle.code_item_scan.proofs.hits.next_string.Goals as goal

pub loop-at-init : goal.loop-at-init
loop-at-init c = came_skipped _ c.skip-at.ensures

pub returns-in-Some : goal.returns-in-Some
returns-in-Some c =
    let k = c.loop-at in
    let told = sym c.in-Some.is ∙ c.string_hit.ensures in
    finds_hit _ (came_found k.invariant (string_found _ _ _ _ (omega arith) _ told))

pub loop-at-preserved : goal.loop-at-preserved
loop-at-preserved c =
    let k = c.loop-at in
    let told = sym c.in_default.is ∙ c.string_hit.ensures in
    came_on (came_on k.invariant (string_miss _ _ _ _ (omega arith) told)) (came_skipped _ c.skip-at-in-loop-at.ensures)

pub returns : goal.returns
returns c = finds_nothing (came_end _ _ _ _ _ _ c.loop-at.invariant (omega arith))
