-- `index_set::add` meets its contract: a word with one bit set differs in that bit alone. Assumes nothing.
use Rattle.index_set.proofs.Bits.{adds, adds_not}
use Rattle.index_set.proofs.add.Goals as goal

pub returns-then-bits-i : goal.returns-then-bits-i
returns-then-bits-i c = adds_not _ _ c.if-bits-i.true

pub returns : goal.returns
returns c = adds _ _ c.if-bits-i.false
