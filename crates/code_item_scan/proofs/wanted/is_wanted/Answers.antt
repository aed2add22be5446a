-- The bits tell of an index that has one, and past them the words, where they have others.
-- Assumes nothing.
use mathlib.Core.Path.{◌∙◌}
use Rattle.code_item_scan.proofs.Sets.{listed_bit, listed_word, listed_none}
use native.Mathlib.Omega.{arith}
use Rattle.code_item_scan.proofs.wanted.is_wanted.Goals as goal

pub returns-then-x-set : goal.returns-then-x-set
returns-then-x-set c = c.holds.ensures ∙ listed_bit _ _ (omega (arith, c.if-x-set.true))

pub returns-then-set : goal.returns-then-set
returns-then-set c = c.is_listed.ensures ∙ listed_word _ _ (omega (arith, c.if-x-set.false)) c.if-set.true

pub returns : goal.returns
returns c = listed_none _ _ (omega (arith, c.if-x-set.false)) c.if-set.false
