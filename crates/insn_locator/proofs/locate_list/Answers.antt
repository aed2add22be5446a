use Rattle.insn_locator.proofs.Entries.{rest_fault, rest_turn, rest_onward, rest_end}
use Rattle.insn_locator.specs.Answers.{tables}
use lib.ListN.{length-set}
use mathlib.Core.Path.{refl, sym, ◌∙◌}
use native.Mathlib.Omega.{arith}
use Rattle.insn_locator.proofs.locate_list.Goals as goal

pub loop-i-init : goal.loop-i-init
loop-i-init c = (refl, refl, refl, c.requires.goes_on)

pub returns-in_err-answers : goal.returns-in_err-answers
returns-in_err-answers c =
    let a = c.args in
    let T = tables a.lent.base a.lent.slots.now a.lent.starts.now a.lent.shares.now in
    let k = c.loop-i in
    rw c.from_residual.ensures
    (rest_fault a.buf.now T a.entries.now k.i k.last k.answers c.loop-i-test.true
    (sym c.in_err-answers.was ∙ c.locate_entry.ensures.answers.answer) ∙ k.invariant.0)

pub loop-i-preserved : goal.loop-i-preserved
loop-i-preserved c =
    let a = c.args in
    let T = tables a.lent.base a.lent.slots.now a.lent.starts.now a.lent.shares.now in
    let k = c.loop-i in
    let keeps = c.locate_entry.ensures.goes_on in (
      rest_turn a.buf.now T a.entries.now k.i k.last k.answers c.loop-i-test.true a.onward
          _ _ _ refl (rw c.in_ok-answers.was at c.locate_entry.ensures.answers) keeps k.invariant.3
          ∙ k.invariant.0,
      omega (arith, c.locate_entry.auto),
      omega (arith, length-set k.answers k.i c.in_ok-answers.field-0),
      λ o.
          rest_onward a.buf.now T a.entries.now k.i k.last k.answers c.loop-i-test.true _ (keeps o) (k.invariant.3 o),
    )

pub returns : goal.returns
returns c =
    let a = c.args in
    let T = tables a.lent.base a.lent.slots.now a.lent.starts.now a.lent.shares.now in
    let k = c.loop-i in
    rest_end a.buf.now T a.entries.now k.i k.last k.answers c.loop-i-test.false ∙ k.invariant.0
