use Rattle.std.specs.Prelude.{Err}
use borrow.Author.Rules.{rules}
use mathlib.Core.Path.{◌≡◌}
use native.Mathlib.Omega.{arith}
use Rattle.words.proofs.Shared.{met}
use Rattle.leb128.proofs.Published.{len_in}
use Rattle.class_data.proofs.Laws.{skipped_again, skipped_no, skipped_end}
use Rattle.class_data.proofs.item.skip_numbers.Goals as goal

pub overflow_add-at : goal.overflow_add-at
overflow_add-at c = omega (arith, len_in _ _ _ (met c.in_ok-at.was c.read_uleb128_len.ensures.gives))

pub loop-preserved : goal.loop-preserved
loop-preserved c = skipped_again _ _ _ _ (omega arith) (met c.in_ok-at.was c.read_uleb128_len.ensures.gives) c.loop.invariant

pub returns-in_err-at : goal.returns-in_err-at
returns-in_err-at c =
    let e : c.from_residual.result ≡ Err c.in_err-at.field-0.0 = search rules in
    rw e (skipped_no _ _ _ (omega arith) (met c.in_err-at.was c.read_uleb128_len.ensures.gives) c.loop.invariant)

pub returns : goal.returns
returns c = skipped_end _ _ _ (omega arith) c.loop.invariant
