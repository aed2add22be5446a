-- `refusals::judge_text` meets its contract: the stretch that is looked at is the text's.
-- Assumes nothing.
use Rattle.name_filter.proofs.Faults.{judged_empty, judged_ascii, judged_other}
use Rattle.string_data.proofs.Laws.{stretch_found}
use Rattle.words.proofs.Shared.{met}
use mathlib.Core.Path.{refl}
use Rattle.name_filter.proofs.refusals.judge_text.Goals as goal

pub returns-then-query-lt1 : goal.returns-then-query-lt1
returns-then-query-lt1 c = judged_empty _ _ _ _ c.if-query-lt1.true

pub returns-then-not-is_ascii : goal.returns-then-not-is_ascii
returns-then-not-is_ascii c =
    let a = c.args in
    judged_other a.file.now a.query.now a.start a.len _ (stretch_found a.file.now a.start a.len _ refl)
    c.if-query-lt1.false (met c.is_ascii.ensures c.if-not-is_ascii.true)

pub returns : goal.returns
returns c =
    let a = c.args in
    judged_ascii a.file.now a.query.now a.start a.len _ (stretch_found a.file.now a.start a.len _ refl) _
    (met c.is_ascii.ensures c.if-not-is_ascii.false) c.matches_name.ensures
