-- A word for which the marks have a bit is marked there, and any other is inserted.
-- Assumes nothing.
use mathlib.Core.Path.{refl, subst}
use Rattle.index_set.specs.Bits.{Adds}
use Rattle.index_set.specs.Marked.{marked, inserted}
use Rattle.index_set.proofs.marked.add.Goals as goal

pub returns-then-add : goal.returns-then-add
returns-then-add c = marked (subst (Adds _ _ _) c.if-add.true c.add.ensures) refl refl

pub returns : goal.returns
returns c =
    inserted (subst (Adds _ _ _) c.if-add.false c.add.ensures) c.insert.ensures
