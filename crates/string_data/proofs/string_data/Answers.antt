-- `string_data::string_data` meets its contract: the text is the one after the length bytes, in a file that is small enough.
-- Assumes nothing.
use Rattle.std.proofs.lemmas.Result.{err_from_is_err_and}
use Rattle.string_data.proofs.Laws.{too_large, small_enough}
use mathlib.Core.Path.{sym, ◌∙◌}
use Rattle.string_data.proofs.string_data.Goals as goal

pub returns-then-too_large : goal.returns-then-too_large
returns-then-too_large c = too_large _ _ (sym c.too_large.ensures ∙ c.if-too_large.true)

pub returns-in_err-text_start : goal.returns-in_err-text_start
returns-in_err-text_start c =
    let p = err_from_is_err_and c.from_residual.result c.from_residual.ensures.1 in
    rw (p.1, p.2) (small_enough _ _ (sym c.too_large.ensures ∙ c.if-too_large.false) _ c.in_err-text_start.ensures)

pub returns : goal.returns
returns c = small_enough _ _ (sym c.too_large.ensures ∙ c.if-too_large.false) _ (c.text_from.ensures ∙ c.in_ok-text_start.ensures)
