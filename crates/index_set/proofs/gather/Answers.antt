use mathlib.Core.Path.{refl}
use Rattle.index_set.proofs.Gathering.{all_start, all_next, all_full, all_done, no_bits}
use Rattle.index_set.proofs.gather.Goals.{then-bits-i-ne0+in_ok-held, else-bits-i-ne0}
use Rattle.index_set.proofs.gather.Goals as goal

pub loop-i-init : goal.loop-i-init
loop-i-init c = all_start _ _ _ c.min-end.ensures

pub returns-in_err-held : goal.returns-in_err-held
returns-in_err-held c =
    rw c.from_residual.ensures (all_full c.loop-i.invariant c.loop-i-test.true c.gather_word.ensures c.in_err-held.was)

pub loop-i-preserved : goal.loop-i-preserved
loop-i-preserved c =
    let t = c.loop-i.invariant in
    let l = c.loop-i-test.true in
    elim c.if-bits-i-ne0.branch [
      | then-bits-i-ne0+in_ok-held w ↦ all_next t l _ w.gather_word.ensures w.in_ok-held.was w.gather_word.auto.out w.out-is w.held-is
      | else-bits-i-ne0 w ↦ all_next t l _ (no_bits _ _ w.if-bits-i-ne0.false _ _) refl refl w.out-is w.held-is
    ]

pub returns : goal.returns
returns c = all_done c.loop-i.invariant c.loop-i-test.false
