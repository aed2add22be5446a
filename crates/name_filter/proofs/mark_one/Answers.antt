-- `name_filter::mark_one` meets its contract: what is known of a string that was seen is true, and so is what is noted of another.
-- Assumes nothing.
use Rattle.std.specs.Prelude.{Err}
use borrow.Author.Rules.{rules}
use mathlib.Core.Path.{◌≡◌, ap, sym, ◌∙◌}
use Rattle.string_data.specs.Text.{string_text}
use Rattle.name_filter.proofs.Faults.{judged_at}
use Rattle.name_filter.proofs.Marks.{look_known, look_noted, look_refused}
use Rattle.name_filter.proofs.mark_one.Goals as goal

pub returns-then-holds : goal.returns-then-holds
returns-then-holds c = look_known c.args.index c.requires.marks (sym c.holds.ensures ∙ c.if-holds.true)

pub note-requires : goal.note-requires
note-requires c = c.requires.room

pub returns : goal.returns
returns c =
    let a = c.args in
    let b = c.in_ok-named.named in
    let j = (judged_at (ap (string_text a.asked.now.file.now) c.data_offset-offset.ensures) c.judge.ensures).known b c.in_ok-named.was in
    look_noted a.index c.requires.marks (sym c.holds.ensures ∙ c.if-holds.false) b j.0 j.1 c.note.ensures

pub returns-in_err-named : goal.returns-in_err-named
returns-in_err-named c =
    let a = c.args in
    let why = c.in_err-named.field-0.0 in
    let j = (judged_at (ap (string_text a.asked.now.file.now) c.data_offset-offset.ensures) c.judge.ensures).refused why c.in_err-named.was in
    let e : c.from_residual.result ≡ Err why = search rules in
    rw e (look_refused a.index c.requires.marks why j)
