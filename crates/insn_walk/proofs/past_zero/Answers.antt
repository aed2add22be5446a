-- Each way out is one byte after the 0: that of a payload, whose numbers stand in its header, or another, and then it is a nop.
-- Assumes nothing.
use mathlib.Core.Path.{sym, ◌∙◌}
use native.Mathlib.Omega.{arith}
use Rattle.structs.proofs.Laws.{read32_value, read32_outside}
use Rattle.insn_walk.proofs.Headers.{product_small, packed, sparse, array_data, some_data, no_payload}
use Rattle.insn_walk.proofs.Steps.{data_cut, nop_step}
use borrow.Author.Rules.{rules}
use Rattle.insn_walk.proofs.past_zero.Goals as goal

pub past_payload-requires : goal.past_payload-requires
past_payload-requires c =
    packed _ _ _ c.requires c.byte_at-ident.ensures.is c.if-ident-eq1.true c.u16_at-size.ensures

pub past_payload-requires-then-ident-eq2 : goal.past_payload-requires-then-ident-eq2
past_payload-requires-then-ident-eq2 c =
    sparse _ _ _ c.requires c.byte_at-ident.ensures.is c.if-ident-eq2.true c.u16_at-size-then-ident-eq2.ensures

pub returns-in_err-size : goal.returns-in_err-size
returns-in_err-size c =
    c.from_residual.ensures
    ∙ sym
    (data_cut _ _ (some_data _ _ _ c.requires c.byte_at-ident.ensures.is c.if-ident-eq3.true)
    (read32_outside _ _ c.in_err-size.ensures))

pub overflow_mul-size-then-ident-eq3 : goal.overflow_mul-size-then-ident-eq3
overflow_mul-size-then-ident-eq3 c =
    omega (arith, product_small c.in_ok-size.size c.u16_at-width.result (search rules) c.u16_at-width.ensures.small)

pub overflow_add-size-then-ident-eq3 : goal.overflow_add-size-then-ident-eq3
overflow_add-size-then-ident-eq3 c =
    omega (arith, product_small c.in_ok-size.size c.u16_at-width.result (search rules) c.u16_at-width.ensures.small)

pub overflow_add-size-then-ident-eq3-2 : goal.overflow_add-size-then-ident-eq3-2
overflow_add-size-then-ident-eq3-2 c =
    omega (arith, product_small c.in_ok-size.size c.u16_at-width.result (search rules) c.u16_at-width.ensures.small)

pub past_payload-requires-then-ident-eq3 : goal.past_payload-requires-then-ident-eq3
past_payload-requires-then-ident-eq3 c =
    array_data _ _ _ c.requires c.byte_at-ident.ensures.is c.if-ident-eq3.true c.u16_at-width.ensures
    (read32_value _ _ _ c.in_ok-size.ensures).is (search rules)

pub returns : goal.returns
returns c =
    let pre = c.requires in
    sym
    (nop_step _ _ (no_payload _ _ _ pre c.byte_at-ident.ensures.is c.if-ident-eq1.false c.if-ident-eq2.false c.if-ident-eq3.false)
    pre.inside pre.zero)
