-- Two halves are the number of four bytes.
-- Assumes nothing.
use Rattle.dalvik.specs.Numbers.{le32}
use borrow.Author.Rules.{rules}
use Rattle.code_item_scan.proofs.reads.u32_inside.Goals as goal

pub returns : goal.returns
unfolding le32
returns c = search rules
