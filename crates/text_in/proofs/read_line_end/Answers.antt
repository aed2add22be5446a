-- `text_in::read_line_end` meets its contract: each way out is a case of `line_end`.
-- Assumes nothing.
use Rattle.std.proofs.Common.{arith}
use Rattle.std.proofs.lemmas.Grind.{common_steps}
use Rattle.text_in.specs.Words.{line_end}
use Rattle.text_in.proofs.read_line_end.Goals as goal

pub returns-then-at-text : goal.returns-then-at-text
unfolding line_end
returns-then-at-text c = grind (arith, common_steps)

pub returns-in_err-b : goal.returns-in_err-b
unfolding line_end
returns-in_err-b c = grind (arith, common_steps)

pub returns : goal.returns
unfolding line_end
returns c = grind (arith, common_steps)
