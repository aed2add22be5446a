use Rattle.code_item_scan.proofs.Whole.{found_inside, going_start, going_on, going_end}
use native.Mathlib.Omega.{arith}
use Rattle.code_item_scan.proofs.collect.Goals as goal

pub loop-hit-init : goal.loop-hit-init
loop-hit-init c = (going_start _ _, omega (arith, c.requires.0), omega arith)

pub overflow_cast-hit : goal.overflow_cast-hit
overflow_cast-hit c =
    let h = (found_inside c.requires.0 (c.next_hit.ensures.finds _ c.requires.1)).hit _ c.in-Some.is in
    omega (arith, h, c.requires.0)

pub loop-hit-smaller : goal.loop-hit-smaller
loop-hit-smaller c =
    let h = (found_inside c.requires.0 (c.next_hit.ensures.finds _ c.requires.1)).hit _ c.in-Some.is in
    omega (arith, h)

pub loop-hit-preserved : goal.loop-hit-preserved
loop-hit-preserved c =
    let h = (found_inside c.requires.0 (c.next_hit.ensures.finds _ c.requires.1)).hit _ c.in-Some.is in (
      going_on _ _ _ c.loop-hit.invariant.0 h.hits c.put.ensures c.put-in-Some.ensures,
      omega (arith, h),
      omega (arith, h),
    )

pub returns : goal.returns
returns c =
    going_end c.loop-hit.invariant.0 ((found_inside c.requires.0 (c.next_hit.ensures.finds _ c.requires.1)).none_left c.in_default.is)
