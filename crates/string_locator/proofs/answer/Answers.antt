-- `string_locator::answer` meets its contract: the faults are tested in the order of the definition.
-- Assumes nothing.
use Rattle.string_locator.proofs.Laws.{too_large, no_strings, ids_outside, too_short, strings_found}
use Rattle.refusal.specs.Refusals.{is_too_large}
use lib.ListN.{length}
use mathlib.Core.Bool.{false}
use mathlib.Core.Path.{◌≡◌, sym, ◌∙◌}
use native.Mathlib.Omega.{arith}
use Rattle.string_locator.proofs.answer.Goals as goal

pub returns-then-too_large : goal.returns-then-too_large
returns-then-too_large c = too_large _ _ _ _ (sym c.too_large.ensures ∙ c.if-too_large.true)

pub returns-then-n-eq0 : goal.returns-then-n-eq0
returns-then-n-eq0 c =
    let small : is_too_large (length c.args.file.now) ≡ false = sym c.too_large.ensures ∙ c.if-too_large.false in
    no_strings _ _ _ _ small c.if-n-eq0.true

pub returns-then-file-end : goal.returns-then-file-end
returns-then-file-end c =
    let small : is_too_large (length c.args.file.now) ≡ false = sym c.too_large.ensures ∙ c.if-too_large.false in
    ids_outside _ _ _ _ small c.if-n-eq0.false (omega (arith, c.end.ensures))

pub returns-then-lent-n : goal.returns-then-lent-n
returns-then-lent-n c =
    let small : is_too_large (length c.args.file.now) ≡ false = sym c.too_large.ensures ∙ c.if-too_large.false in
    too_short _ _ _ _ small c.if-n-eq0.false (omega (arith, c.end.ensures)) c.if-lent-n.true

pub returns : goal.returns
returns c =
    let small : is_too_large (length c.args.file.now) ≡ false = sym c.too_large.ensures ∙ c.if-too_large.false in
    strings_found _ _ _ _ small c.if-n-eq0.false (omega (arith, c.end.ensures))
    c.if-lent-n.false _ c.strings_area.ensures
