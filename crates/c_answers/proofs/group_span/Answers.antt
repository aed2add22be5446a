-- `c_answers::group_span` meets its contract: each way out is a law of proofs/Groups.antt.
-- Assumes nothing.
use Rattle.c_answers.proofs.Groups.{no_key, backward, past, fits}
use Prim.Native.Nat.{◌+◌}
use native.Mathlib.Omega.{arith}
use Rattle.c_answers.proofs.group_span.Goals as goal

pub returns-then-offsets-next : goal.returns-then-offsets-next
returns-then-offsets-next c = no_key _ _ _ (omega arith)

pub overflow_cast-a : goal.overflow_cast-a
overflow_cast-a c = omega (arith, c.type_inv.offsets c.args.key)

pub overflow_cast-e : goal.overflow_cast-e
overflow_cast-e c = omega (arith, c.type_inv.offsets (c.args.key + 1))

pub returns-then-e-a : goal.returns-then-e-a
returns-then-e-a c = backward _ _ _ (omega arith) (omega arith)

pub returns-then-ids-e : goal.returns-then-ids-e
returns-then-ids-e c = past _ _ _ (omega arith) (omega arith) (omega arith)

pub returns : goal.returns
returns c = fits _ _ _ (omega arith) (omega arith) (omega arith)
