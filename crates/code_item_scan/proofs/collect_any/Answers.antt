-- The only kind for which the test of strings is true is strings.
-- Assumes nothing.
use mathlib.Core.Path.{sym, ◌∙◌}
use Rattle.kinds.specs.Kinds.{meant}
use Rattle.kinds.proofs.Widths.{strings_only}
use Rattle.code_item_scan.proofs.collect_any.Goals as goal

pub returns-then-is_strings : goal.returns-then-is_strings
returns-then-is_strings c =
    rw (strings_only (meant c.args.kind) (sym c.is_strings.ensures ∙ c.if-is_strings.true))
    c.collect_strings.ensures
