-- `text_in::read_number` meets its contract: the digits' end and their value are those of `number_at`, and each way out is one of its cases.
-- Assumes nothing.
use Rattle.std.proofs.Common.{arith}
use Rattle.std.proofs.lemmas.Grind.{common_steps}
use Rattle.text_in.proofs.Laws.{leading_inside, number_past, number_none, number_large, number_some}
use Rattle.text_in.proofs.read_number.Goals as goal

pub returns-in_err-rest : goal.returns-in_err-rest
returns-in_err-rest c = grind (arith, common_steps, number_past)

pub returns-then-count-eq0 : goal.returns-then-count-eq0
returns-then-count-eq0 c = grind (arith, common_steps, number_none)

pub slice_bounds-value-end : goal.slice_bounds-value-end
slice_bounds-value-end c = grind (arith, common_steps, leading_inside)

pub returns-in_err-v : goal.returns-in_err-v
returns-in_err-v c = grind (arith, common_steps, number_large)

pub overflow_add-result : goal.overflow_add-result
overflow_add-result c = grind (arith, common_steps, leading_inside)

pub returns : goal.returns
returns c = grind (arith, common_steps, number_some)
