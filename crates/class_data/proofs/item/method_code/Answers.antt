-- `method_code` meets its contract: a law for each way out, by what the numbers and the code item showed.
-- Assumes nothing.
use Rattle.std.specs.Prelude.{Some, None, Err}
use borrow.Author.Rules.{rules}
use mathlib.Core.Path.{◌≡◌}
use native.Mathlib.Omega.{arith}
use Rattle.refusal.specs.declared.Refusal.TheVariants.{CodeOutside}
use Rattle.class_data.specs.Steps.{item_at}
use Rattle.class_data.proofs.Laws.{head_told, head_refused}
use Rattle.class_data.proofs.Parts.{method_refused, method_bare, method_index, method_large, method_outside, method_coded}
use Rattle.class_data.proofs.item.method_code.Goals as goal

pub returns-in_err-head : goal.returns-in_err-head
returns-in_err-head c =
    let e : c.from_residual.result ≡ Err c.in_err-head.field-0.0 = search rules in
    rw e (method_refused _ _ _ _ (head_refused _ _ _ _ c.method_head.ensures c.in_err-head.was))

pub returns-then-head-eq0 : goal.returns-then-head-eq0
returns-then-head-eq0 c = method_bare _ (head_told _ _ _ _ c.method_head.ensures c.in_ok-head.was) (omega arith)

pub returns-then-methods-head : goal.returns-then-methods-head
returns-then-methods-head c =
    method_index _ (head_told _ _ _ _ c.method_head.ensures c.in_ok-head.was) c.if-head-eq0.false (omega arith)

pub returns-then-head-ge-MOST_METHODS : goal.returns-then-head-ge-MOST_METHODS
returns-then-head-ge-MOST_METHODS c =
    method_large _ (head_told _ _ _ _ c.method_head.ensures c.in_ok-head.was) c.if-head-eq0.false (omega arith) (omega arith)

pub returns-in_err-units : goal.returns-in_err-units
returns-in_err-units c =
    let e : c.from_residual-in_err-units.result ≡ Err CodeOutside = search rules in
    let out : None ≡ item_at c.args.buf.now c.in_ok-head.head.code = search rules in
    rw e (method_outside _ (head_told _ _ _ _ c.method_head.ensures c.in_ok-head.was) c.if-head-eq0.false (omega arith) (omega arith) out)

pub returns : goal.returns
returns c =
    let units : Some c.in_ok-units.units ≡ item_at c.args.buf.now c.in_ok-head.head.code = search rules in
    method_coded _ (head_told _ _ _ _ c.method_head.ensures c.in_ok-head.was) c.if-head-eq0.false (omega arith) (omega arith) units
