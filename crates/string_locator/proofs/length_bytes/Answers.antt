use Rattle.string_locator.proofs.LengthBytes.{length_start, length_off, length_again, length_stop}
use native.Mathlib.Omega.{arith}
use Rattle.string_locator.proofs.length_bytes.Goals as goal

pub loop-at-init : goal.loop-at-init
loop-at-init c = length_start _ _ 0

pub returns-then-file-at-lt128 : goal.returns-then-file-at-lt128
returns-then-file-at-lt128 c = length_stop _ _ _ (omega arith) (omega arith) _ c.loop-at.invariant (omega arith)

pub loop-at-preserved : goal.loop-at-preserved
loop-at-preserved c = length_again _ _ _ (omega arith) (omega arith) _ c.loop-at.invariant (omega arith)

pub returns : goal.returns
returns c = length_off _ _ _ _ (omega arith) c.loop-at.invariant
