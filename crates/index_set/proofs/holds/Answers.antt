-- `index_set::holds` meets its contract: the bit read is that of the definition, and past the words there is none. Assumes nothing.
use mathlib.Core.Path.{refl, sym}
use Rattle.index_set.specs.Bits.{is_held}
use Rattle.index_set.proofs.Bits.{outside}
use Rattle.index_set.proofs.holds.Goals as goal

pub returns-then-bits-i : goal.returns-then-bits-i
returns-then-bits-i c = sym (outside _ _ c.if-bits-i.true)

pub returns : goal.returns
unfolding is_held
returns c = refl
