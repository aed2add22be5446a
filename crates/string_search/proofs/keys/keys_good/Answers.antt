use Rattle.string_search.proofs.GoodKeys.{good_low, good_last, good_next, good_end}
use Rattle.string_search.proofs.keys.keys_good.Goals.{then-k-least-via-then-k-least, then-k-least-via-else-k-least+then-k-eq-NO_INDEX}
use mathlib.Core.Path.{sym, ◌∙◌}
use native.Mathlib.Omega.{arith}
use Rattle.string_search.proofs.keys.keys_good.Goals as goal

pub returns-then-k-least : goal.returns-then-k-least
returns-then-k-least c =
    let t = c.loop-key-test.true in
    sym (elim c.then-k-least.branch [
      | then-k-least-via-then-k-least w ↦ good_low _ _ _ t w.if-k-least.true
      | then-k-least-via-else-k-least+then-k-eq-NO_INDEX w ↦ good_last _ _ _ t w.if-k-least.false w.if-k-eq-NO_INDEX.true
    ]) ∙ c.loop-key.invariant.0

pub loop-key-preserved : goal.loop-key-preserved
loop-key-preserved c = (
  sym (good_next _ _ _ c.loop-key-test.true c.if-k-least.false c.if-k-eq-NO_INDEX.false) ∙ c.loop-key.invariant.0,
  omega arith,
)

pub returns : goal.returns
returns c = sym (good_end _ c.loop-key.least _ c.loop-key-test.false) ∙ c.loop-key.invariant.0
