-- `method_head` meets its contract: the sum is tested once its number is read, before the two numbers after it.
-- Assumes nothing.
use Rattle.std.specs.Prelude.{Err}
use borrow.Author.Rules.{rules}
use mathlib.Core.Path.{◌≡◌}
use native.Mathlib.Omega.{arith}
use Rattle.leb128.proofs.Published.{fast_in}
use Rattle.class_data.proofs.Laws.{head_no1, head_index, head_no2, head_no3, head_at}
use Rattle.class_data.proofs.item.method_head.Goals as goal

pub returns-in_err-diff : goal.returns-in_err-diff
returns-in_err-diff c =
    let e : c.from_residual.result ≡ Err c.in_err-diff.field-0.0 = search rules in
    rw e (head_no1 _ _ _ c.in_err-diff.ensures.gives)

pub returns-then-sum-ge-WORD : goal.returns-then-sum-ge-WORD
returns-then-sum-ge-WORD c = head_index _ _ _ c.in_ok-diff.ensures.gives (omega arith)

pub overflow_add-p : goal.overflow_add-p
overflow_add-p c = omega (arith, fast_in _ _ _ _ c.in_ok-diff.ensures.gives)

pub returns-in_err-flags : goal.returns-in_err-flags
returns-in_err-flags c =
    let e : c.from_residual-in_err-flags.result ≡ Err c.in_err-flags.field-0.0 = search rules in
    rw e (head_no2 _ _ _ c.in_ok-diff.ensures.gives (omega arith) c.in_err-flags.ensures.gives)

pub overflow_add-q : goal.overflow_add-q
overflow_add-q c = omega (arith, fast_in _ _ _ _ c.in_ok-flags.ensures.gives)

pub returns-in_err-off : goal.returns-in_err-off
returns-in_err-off c =
    let e : c.from_residual-in_err-off.result ≡ Err c.in_err-off.field-0.0 = search rules in
    rw e (head_no3 _ _ _ c.in_ok-diff.ensures.gives (omega arith) c.in_ok-flags.ensures.gives c.in_err-off.ensures.gives)

pub overflow_add-next : goal.overflow_add-next
overflow_add-next c = omega (arith, fast_in _ _ _ _ c.in_ok-off.ensures.gives)

pub returns : goal.returns
returns c = head_at _ _ _ c.in_ok-diff.ensures.gives (omega arith) c.in_ok-flags.ensures.gives c.in_ok-off.ensures.gives
