-- The payload passes the file's end, or is inside.
-- Assumes nothing.
use mathlib.Core.Path.{sym}
use native.Mathlib.Omega.{arith}
use Rattle.insn_walk.proofs.Steps.{payload_cut, payload_step}
use Rattle.insn_walk.proofs.past_payload.Goals as goal

pub returns-then-buf-next : goal.returns-then-buf-next
returns-then-buf-next c =
    let pre = c.requires in
    sym (payload_cut _ _ _ pre.units pre.some_units (omega arith))

pub returns : goal.returns
returns c =
    let pre = c.requires in
    sym (payload_step _ _ _ pre.units pre.some_units (omega arith))
