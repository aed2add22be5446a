-- A slot word below the mark of a share is a method plus one; else its share is inside or not.
-- Assumes nothing.
use native.Mathlib.Omega.{arith}
use Rattle.insn_locator.proofs.Slots.{first_single, first_outside, first_shared}
use Rattle.insn_locator.proofs.first_of.Goals as goal

pub returns-then-slot-lt-SHARED : goal.returns-then-slot-lt-SHARED
returns-then-slot-lt-SHARED c = first_single _ _ c.if-slot-lt-SHARED.true

pub returns-then-shares-at : goal.returns-then-shares-at
returns-then-shares-at c = first_outside _ _ (omega arith) (omega arith)

pub returns : goal.returns
returns c = first_shared _ _ c.if-slot-lt-SHARED.false c.if-shares-at.false
