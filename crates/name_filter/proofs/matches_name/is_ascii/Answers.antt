use Rattle.name_filter.proofs.HasName.{ascii_start, ascii_more, ascii_said}
use native.Mathlib.Omega.{arith}
use Rattle.name_filter.proofs.matches_name.is_ascii.Goals as goal

pub loop-byte-init : goal.loop-byte-init
loop-byte-init c = (omega arith, ascii_start _)

pub loop-byte-preserved : goal.loop-byte-preserved
loop-byte-preserved c = (omega arith, ascii_more _ _ _ c.loop-byte-test.true c.loop-byte.invariant.1)

pub returns : goal.returns
returns c = ascii_said _ _ _ c.loop-byte-test.false c.loop-byte.invariant.1
