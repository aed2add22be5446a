-- `refusals::judge` meets its contract: a refusal is handed on, and a text that is found is inside the file.
-- Assumes nothing.
use Rattle.name_filter.proofs.Faults.{text_refused, judged_refused, judged_at}
use Rattle.std.specs.Prelude.{Err}
use Rattle.string_data.proofs.Laws.{inside}
use borrow.Author.Rules.{rules}
use mathlib.Core.Path.{◌≡◌}
use Rattle.name_filter.proofs.refusals.judge.Goals as goal

pub judge_text-requires : goal.judge_text-requires
judge_text-requires c = inside _ _ _ _ c.in_ok-text.ensures

pub returns : goal.returns
returns c = judged_at c.in_ok-text.ensures c.judge_text.ensures

pub returns-in_err-text : goal.returns-in_err-text
returns-in_err-text c =
    let why = c.in_err-text.field-0.0 in
    let e : c.from_residual.result ≡ Err why = search rules in
    rw e (judged_refused _ _ _ why (text_refused _ _ _ why c.in_err-text.ensures))
