-- The last confirmed offset decides whether the start is taken.
-- Assumes nothing.
use borrow.Author.Tests.{eq-eqb, ne_eqb}
use Rattle.insn_locator.proofs.from_of.Goals as goal

pub returns-then-confirmed-eq0 : goal.returns-then-confirmed-eq0
returns-then-confirmed-eq0 c = rw (eq-eqb c.args.confirmed 0 c.if-confirmed-eq0.true)

pub returns-else-confirmed-eq0 : goal.returns-else-confirmed-eq0
returns-else-confirmed-eq0 c = rw (ne_eqb c.args.confirmed 0 c.if-confirmed-eq0.false)
