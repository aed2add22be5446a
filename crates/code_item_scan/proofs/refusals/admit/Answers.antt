-- Each test is made where those before it have passed.
-- Assumes nothing.
use native.Mathlib.Omega.{arith}
use mathlib.Core.Path.{refl, sym, ap, ◌∙◌}
use Rattle.std.specs.Result.{result_ok}
use Rattle.std.proofs.lemmas.Result.{err_from_is_err_and}
use Rattle.code_item_scan.specs.Steps.{large, unknown, backward, past_end, scan}
use Rattle.kinds.specs.Kinds.{kind_read}
use Rattle.code_item_scan.proofs.refusals.admit.Goals as goal

pub returns-then-too_large : goal.returns-then-too_large
returns-then-too_large c = large refl (cc)

pub returns-in_err-k : goal.returns-in_err-k
returns-in_err-k c =
    let p = err_from_is_err_and c.from_residual.result c.from_residual.ensures.1 in
    let none = c.ok_or.ensures.ok_part ∙ ap result_ok c.in_err-k.was in
    unknown (grind arith) (cc) (sym c.kind_of.ensures ∙ ap kind_read none)

pub returns-then-end-start : goal.returns-then-end-start
returns-then-end-start c =
    let some = c.ok_or.ensures.ok_part ∙ ap result_ok c.in_ok-k.was in
    backward c.in_ok-k.k refl (cc) (sym c.kind_of.ensures ∙ ap kind_read some) c.if-end-start.true

pub returns-then-len-end : goal.returns-then-len-end
returns-then-len-end c =
    let some = c.ok_or.ensures.ok_part ∙ ap result_ok c.in_ok-k.was in
    past_end c.in_ok-k.k refl (cc) (sym c.kind_of.ensures ∙ ap kind_read some) (omega arith) c.if-len-end.true

pub returns : goal.returns
returns c =
    let some = c.ok_or.ensures.ok_part ∙ ap result_ok c.in_ok-k.was in
    scan c.in_ok-k.k refl (cc) (sym c.kind_of.ensures ∙ ap kind_read some) (omega arith) (omega arith)
