-- At the end of the method or past it nothing is confirmed; before it the walk's verdict decides. A confirmed offset is noted, and so is, onward, where
-- the walk stands, from which it goes on as it would have.
-- Assumes nothing.
use Rattle.insn_locator.proofs.Alone.{stays, goes_on, goes_on_confirmed}
use Rattle.insn_locator.proofs.Tables.{tried_past, tried_none, tried_on, tried_off, tried_same, tried_onward}
use native.Mathlib.Omega.{arith}
use Prim.Native.Nat.{ℕ}
use mathlib.Core.List.{List}
use Rattle.insn_walk.specs.Walk.{Walked}
use Rattle.insn_locator.specs.Locate.{Answered, from_of}
use mathlib.Core.Path.{ap, sym, ◌∙◌}
use Rattle.insn_locator.proofs.confirm.Goals as goal

pub returns-then-array-off : goal.returns-then-array-off
returns-then-array-off c =
    let a = c.args in
    record {
      answers = tried_same (tried_past a.buf.now a.array a.last.now a.slot a.m a.off c.if-array-off.true);
      goes_on = λ _. stays;
    }

pub returns-then-from-eq0 : goal.returns-then-from-eq0
returns-then-from-eq0 c =
    let a = c.args in
    record {
      answers = tried_same
          (tried_none a.buf.now a.array a.last.now a.slot a.m a.off c.if-array-off.false _
          (c.from_of-from.ensures ∙ ap (from_of a.array.start) c.word_at.ensures) c.if-from-eq0.true);
      goes_on = λ _. stays;
    }

pub returns-then-walked : goal.returns-then-walked
returns-then-walked c =
    let a = c.args in
    let here = c.from_of-from.ensures ∙ ap (from_of a.array.start) c.word_at.ensures in
    let told = sym (ap (λ (w : Walked). w.lands) c.walk-walked.ensures.is) ∙ c.if-walked.true in
    record {
      answers = tried_same
          (ap (λ (l : List ℕ). record { answer = a.slot; last = l }) c.put.ensures
          ∙ tried_on a.buf.now a.array a.last.now a.slot a.m a.off c.if-array-off.false _ here
          (omega arith) told);
      goes_on = λ _. rw c.put.ensures (goes_on_confirmed a.buf.now a.array.start a.m a.off a.last.now _ here (omega arith) told);
    }

pub returns-then-onward : goal.returns-then-onward
returns-then-onward c =
    let a = c.args in
    let here = c.from_of-from.ensures ∙ ap (from_of a.array.start) c.word_at.ensures in
    let told = sym (ap (λ (w : Walked). w.lands) c.walk-walked.ensures.is) ∙ c.if-walked.false in
    let goal = tried_off a.buf.now a.array a.last.now a.slot a.m a.off c.if-array-off.false _ here
    (omega arith) told in
    record {
      answers = tried_onward c.if-onward.true (ap (λ (r : Answered). r.answer) goal);
      goes_on = λ _.
          rw c.put-then-onward.ensures
          (goes_on a.buf.now a.array.start a.m a.off a.last.now _ here (omega arith) _ (omega (arith, c.walk-walked.ensures.forward))
          c.walk-walked.ensures.same);
    }

pub returns-else-onward : goal.returns-else-onward
returns-else-onward c =
    let a = c.args in
    let told = sym (ap (λ (w : Walked). w.lands) c.walk-walked.ensures.is) ∙ c.if-walked.false in
    record {
      answers = tried_same
          (tried_off a.buf.now a.array a.last.now a.slot a.m a.off c.if-array-off.false _
          (c.from_of-from.ensures ∙ ap (from_of a.array.start) c.word_at.ensures) (omega arith) told);
      goes_on = λ _. stays;
    }
