-- A block below the base has no slot, and one past the slots reads as 0.
-- Assumes nothing.
use mathlib.Core.Path.{◌∙◌}
use Rattle.insn_locator.proofs.Slots.{slot_below, slot_from}
use Rattle.insn_locator.proofs.slot_at.Goals as goal

pub returns-then-block-base : goal.returns-then-block-base
returns-then-block-base c = slot_below _ _ _ c.if-block-base.true

pub returns : goal.returns
returns c = c.word_at.ensures ∙ slot_from _ _ _ c.if-block-base.false
