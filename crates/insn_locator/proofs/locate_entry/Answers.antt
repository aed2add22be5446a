-- Each way out is one way that an entry is answered, or that a table does not hold what is needed; only a walk that was tried changes a word.
-- Assumes nothing.
use Rattle.std.specs.Prelude.{Some, None}
use Rattle.insn_locator.proofs.Alone.{ready_later, ready_on}
use Rattle.insn_locator.proofs.Tables.{entry_free, entry_missing, entry_unknown, entry_tried, entry_same, entry_by_walk}
use Rattle.insn_locator.specs.Answers.{tables}
use native.Mathlib.Omega.{arith}
use mathlib.Core.Path.{sym, ◌∙◌}
use Rattle.insn_locator.proofs.locate_entry.Goals as goal

pub returns-then-slot-eq0 : goal.returns-then-slot-eq0
returns-then-slot-eq0 c =
    let a = c.args in
    let T = tables a.lent.base a.lent.slots.now a.lent.starts.now a.lent.shares.now in
    record {
      answers = entry_same (Some 0) a.last.now (entry_free a.buf.now T a.last.now a.off _ c.slot_at-slot.ensures c.if-slot-eq0.true);
      goes_on = λ _. ready_later a.buf.now T a.off a.last.now;
    }

pub returns-in_err-m : goal.returns-in_err-m
returns-in_err-m c =
    let a = c.args in
    let T = tables a.lent.base a.lent.slots.now a.lent.starts.now a.lent.shares.now in
    record {
      answers = rw c.from_residual.ensures
          (entry_same None a.last.now
          (entry_missing a.buf.now T a.last.now a.off _ c.slot_at-slot.ensures (omega arith)
          (sym c.in_err-m.was ∙ c.first_of.ensures)));
      goes_on = λ _. ready_later a.buf.now T a.off a.last.now;
    }

pub returns-in_err-array : goal.returns-in_err-array
returns-in_err-array c =
    let a = c.args in
    let T = tables a.lent.base a.lent.slots.now a.lent.starts.now a.lent.shares.now in
    record {
      answers = rw c.from_residual-in_err-array.ensures
          (entry_same None a.last.now
          (entry_unknown a.buf.now T a.last.now a.off _ c.slot_at-slot.ensures _ (omega arith)
          (sym c.in_ok-m.was ∙ c.first_of.ensures)
          (sym c.in_err-array.was ∙ c.pair_at.ensures)));
      goes_on = λ _. ready_later a.buf.now T a.off a.last.now;
    }

pub returns : goal.returns
returns c =
    let a = c.args in
    let T = tables a.lent.base a.lent.slots.now a.lent.starts.now a.lent.shares.now in
    let its_pair = sym c.in_ok-array.was ∙ c.pair_at.ensures in
    record {
      answers = entry_by_walk _ _
          (entry_tried a.buf.now T a.last.now a.off _ c.slot_at-slot.ensures _ _ (omega arith)
          (sym c.in_ok-m.was ∙ c.first_of.ensures) its_pair) c.confirm.ensures.answers;
      goes_on = λ o. ready_on a.buf.now T _ _ a.off a.last.now _ (sym its_pair) (c.confirm.ensures.goes_on o);
    }
