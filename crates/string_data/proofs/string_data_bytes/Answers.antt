-- `string_data::string_data_bytes` meets its contract: a text that is found is inside the file, so that its stretch can be lent.
-- Assumes nothing.
use Rattle.string_data.proofs.Laws.{inside}
use Rattle.string_data.specs.Text.{says}
use Rattle.words.proofs.Shared.{met}
use native.Mathlib.Omega.{arith}
use mathlib.Core.Path.{ap}
use Rattle.string_data.proofs.string_data_bytes.Goals as goal

pub overflow_add-end : goal.overflow_add-end
overflow_add-end c = omega (arith, inside _ _ _ _ (met (ap says c.in-Ok.is) c.string_data.ensures))

pub slice_bounds-result-end-2 : goal.slice_bounds-result-end-2
slice_bounds-result-end-2 c = omega (arith, inside _ _ _ _ (met (ap says c.in-Ok.is) c.string_data.ensures))
