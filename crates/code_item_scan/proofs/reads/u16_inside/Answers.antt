-- Two bytes are below 65,536.
-- Assumes nothing.
use Rattle.dalvik.specs.Numbers.{le16}
use borrow.Author.Rules.{rules}
use Rattle.code_item_scan.proofs.reads.u16_inside.Goals as goal

pub returns : goal.returns
unfolding le16
returns c = search rules
