-- One entry, by the definition's own words.
-- Assumes nothing.
use mathlib.Core.Path.{refl}
use Rattle.insn_locator.proofs.locate_one.Goals as goal

pub returns : goal.returns
returns c = record { answers = c.locate_entry.ensures.answers.whole refl }
