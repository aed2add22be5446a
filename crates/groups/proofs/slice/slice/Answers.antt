-- Each test of the definition is one of the code, and a part of a slice is that stretch of its words.
-- Assumes nothing.
use native.Mathlib.Omega.{arith}
use Rattle.groups.proofs.Slices.{no_key, backward, past, fits}
use Rattle.groups.proofs.slice.slice.Goals as goal

pub returns-then-offsets-next : goal.returns-then-offsets-next
returns-then-offsets-next c = no_key _ _ _ (omega arith)

pub returns-then-e-a : goal.returns-then-e-a
returns-then-e-a c = backward _ _ _ (omega arith) (omega arith)

pub returns-then-ids-e : goal.returns-then-ids-e
returns-then-ids-e c = past _ _ _ (omega arith) (omega arith) (omega arith)

pub returns : goal.returns
returns c = fits _ _ _ (omega arith) (omega arith) (omega arith)
