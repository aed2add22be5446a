use mathlib.Core.Path.{subst}
use Rattle.code_item_scan.specs.Steps.{EvenHit}
use Rattle.code_item_scan.proofs.Starts.{passed_skipped, passed_on, passed_found, passed_end}
use native.Mathlib.Omega.{arith}
use Rattle.code_item_scan.proofs.hits.next_even.Goals as goal

pub skip_even-at-requires : goal.skip_even-at-requires
skip_even-at-requires c = let p = c.requires in (p.0, p.1, p.2)

pub loop-at-init : goal.loop-at-init
loop-at-init c = passed_skipped _ _ _ _ _ c.requires.3 _ c.skip_even-at.ensures

pub returns-in-Some : goal.returns-in-Some
returns-in-Some c =
    let k = c.loop-at in
    passed_found _ _ _ _ _ c.requires.3 _ k.invariant (omega arith) _
    (subst (EvenHit _ _ _ _) c.in-Some.is c.even_hit.ensures)

pub loop-at-preserved : goal.loop-at-preserved
loop-at-preserved c =
    let k = c.loop-at in
    passed_on _ _ _ _ _ c.requires.3 _ k.invariant (omega arith) _
    (subst (EvenHit _ _ _ _) c.in_default.is c.even_hit.ensures) c.skip_even-at-in-loop-at.ensures

pub returns : goal.returns
returns c =
    passed_end _ _ _ _ _ c.requires.3 _ c.loop-at.invariant (omega arith)
