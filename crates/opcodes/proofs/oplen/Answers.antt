-- `oplen` meets its contract: the table is right, so its entry is the length, and 0 is none.
-- Assumes nothing.
use mathlib.Core.Path.{refl, ◌∙◌, ap, sym}
use Rattle.opcodes.specs.Length.{units_of, as_length, length_read}
use Rattle.opcodes.proofs.Laws.{some_units}
use Rattle.opcodes.proofs.Table.{right}
use Rattle.opcodes.proofs.oplen.Goals as goal

-- the test, over the array as it stands in the source
pub entry-n-requires : goal.entry-n-requires
unfolding units_of
entry-n-requires c = right refl tt

pub returns-then-n-eq0 : goal.returns-then-n-eq0
unfolding length_read
returns-then-n-eq0 c = ap as_length (sym c.if-n-eq0.true ∙ c.entry-n.ensures)

pub returns-else-n-eq0 : goal.returns-else-n-eq0
unfolding length_read
returns-else-n-eq0 c = some_units c.if-n-eq0.false ∙ ap as_length c.entry-n.ensures
