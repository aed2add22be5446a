-- Each way out is one thing that stands there: what begins with 0, or else an opcode with a length, or without.
-- Assumes nothing.
use mathlib.Core.Path.{sym, ◌∙◌}
use native.Mathlib.Omega.{arith}
use Rattle.opcodes.proofs.Laws.{length_units, length_nothing}
use Rattle.insn_walk.proofs.Payloads.{none_low}
use Rattle.insn_walk.proofs.Steps.{opcode_unknown, opcode_step}
use borrow.Author.Rules.{rules}
use Rattle.insn_walk.proofs.step.Goals as goal

pub returns-in_err-n : goal.returns-in_err-n
returns-in_err-n c =
    c.from_residual.ensures ∙ sym (opcode_unknown _ _ (none_low _ _ c.if-op-eq0.false) (search rules) (length_nothing _ c.in_err-n.ensures))

pub overflow_mul-result : goal.overflow_mul-result
overflow_mul-result c = omega (arith, length_units _ _ c.in_ok-n.ensures)

pub overflow_add-result : goal.overflow_add-result
overflow_add-result c = omega (arith, length_units _ _ c.in_ok-n.ensures)

pub returns : goal.returns
returns c =
    let l = length_units _ _ c.in_ok-n.ensures in
    sym (opcode_step _ _ (none_low _ _ c.if-op-eq0.false) (search rules) _ (sym l.units) l.some)
