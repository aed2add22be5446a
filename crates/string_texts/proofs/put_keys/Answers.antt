use Rattle.std.proofs.lemmas.Result.{err_from_is_err_and}
use mathlib.Core.Path.{refl}
use Rattle.string_texts.proofs.Keys.{passed_none, passed_fault, passed_one, passed_all}
use native.Mathlib.Omega.{arith}
use Rattle.string_texts.proofs.put_keys.Goals as goal

pub loop-i-init : goal.loop-i-init
loop-i-init c = passed_none _ _ _ _

pub returns-in_err-at : goal.returns-in_err-at
returns-in_err-at c =
    let p = err_from_is_err_and c.from_residual.result c.from_residual.ensures.1 in
    rw (p.1, p.2) (passed_fault c.loop-i.invariant (omega arith) refl c.in_err-at.ensures)

pub loop-i-preserved : goal.loop-i-preserved
loop-i-preserved c =
    passed_one c.loop-i.invariant (omega arith) refl c.in_ok-at.ensures c.max-last.ensures

pub returns : goal.returns
returns c = passed_all c.loop-i.invariant (omega arith)
