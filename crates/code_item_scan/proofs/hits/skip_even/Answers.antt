use Rattle.code_item_scan.proofs.Starts.{even_skipped_none, even_skipped_one}
use native.Mathlib.Omega.{arith}
use Rattle.code_item_scan.proofs.hits.skip_even.Goals as goal

pub loop-at-init : goal.loop-at-init
loop-at-init c =
    let a = c.args in
    even_skipped_none a.s.now a.end a.table.now a.start (omega arith)

pub returns-then-table-x-ne0 : goal.returns-then-table-x-ne0
returns-then-table-x-ne0 c = c.loop-at.invariant

pub loop-at-preserved : goal.loop-at-preserved
loop-at-preserved c =
    let a = c.args in
    let k = c.loop-at in
    let r = c.u16_inside-x in
    even_skipped_one a.s.now a.end a.table.now a.start k.at r.result k.invariant (omega arith) r.ensures c.if-table-x-ne0.false

pub returns : goal.returns
returns c = c.loop-at.invariant
