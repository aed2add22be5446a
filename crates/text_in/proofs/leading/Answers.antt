use Rattle.std.proofs.Common.{arith}
use Rattle.std.proofs.lemmas.Grind.{common_steps}
use Rattle.text_in.proofs.Laws.{leading_end, leading_other, leading_more}
use Rattle.text_in.proofs.leading.Goals as goal

pub returns-then-not-is_ascii_digit : goal.returns-then-not-is_ascii_digit
returns-then-not-is_ascii_digit c = grind (arith, common_steps, leading_other)

pub loop-i-preserved : goal.loop-i-preserved
loop-i-preserved c = grind (arith, common_steps, leading_more)

pub returns : goal.returns
returns c = grind (arith, common_steps, leading_end)
