use Rattle.name_filter.proofs.Marks.{passed_none, passed_index, passed_fault, passed_next, passed_all}
use Rattle.std.specs.Prelude.{Err}
use borrow.Author.Rules.{rules}
use mathlib.Core.Path.{◌≡◌}
use Rattle.name_filter.proofs.mark.Goals as goal

pub loop-index-init : goal.loop-index-init
loop-index-init c = passed_none _ c.requires

pub returns-then-asked-index : goal.returns-then-asked-index
returns-then-asked-index c = passed_index c.loop-index.invariant c.loop-index-test.true c.if-asked-index.true

pub returns-in_err-mark_one : goal.returns-in_err-mark_one
returns-in_err-mark_one c =
    let e : c.from_residual.result ≡ Err c.in_err-mark_one.field-0.0 = search rules in
    rw e (passed_fault c.loop-index.invariant c.loop-index-test.true c.if-asked-index.false c.mark_one.ensures _ c.in_err-mark_one.was)

pub loop-index-preserved : goal.loop-index-preserved
loop-index-preserved c =
    passed_next c.loop-index.invariant c.loop-index-test.true c.if-asked-index.false c.mark_one.ensures c.in_ok-mark_one.was
    c.mark_one.auto.seen c.mark_one.auto.has

pub returns : goal.returns
returns c = passed_all c.loop-index.invariant c.loop-index-test.false
