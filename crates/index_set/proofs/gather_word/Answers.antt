use Rattle.index_set.proofs.Gathering.{word_done, word_pass, word_joins, word_full, room}
use native.Mathlib.Omega.{arith}
use Rattle.index_set.proofs.gather_word.Goals.{then-w-eq1+in_ok-held, else-w-eq1}
use Rattle.index_set.proofs.gather_word.Goals as goal

pub overflow_cast-x : goal.overflow_cast-x
overflow_cast-x c = omega (arith, room c.loop-w.invariant c.loop-w-test.true)

pub returns-in_err-held : goal.returns-in_err-held
returns-in_err-held c =
    rw c.from_residual.ensures (word_full c.loop-w.invariant c.loop-w-test.true c.if-w-eq1.true c.insert.ensures c.in_err-held.was)

pub loop-w-preserved : goal.loop-w-preserved
loop-w-preserved c =
    let m = c.loop-w.invariant in
    let t = c.loop-w-test.true in
    elim c.if-w-eq1.branch [
      | then-w-eq1+in_ok-held w ↦ word_joins m t w.if-w-eq1.true w.insert.ensures _ w.in_ok-held.was w.insert.auto.w w.out-is w.held-is
      | else-w-eq1 w ↦ word_pass m t w.if-w-eq1.false w.out-is w.held-is
    ]

pub returns : goal.returns
returns c = word_done c.loop-w.invariant c.loop-w-test.false
