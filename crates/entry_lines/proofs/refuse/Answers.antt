-- A refusal leaves zeros: every word and every byte was cleared. Assumes nothing.
use mathlib.Core.Path.{refl}
use Rattle.entry_lines.proofs.refuse.Goals as goal

pub returns : goal.returns
returns c = record { gives = record { answer = refl; no_bytes = c.clear.ensures; no_words = c.fill.ensures } }
