-- `name_filter::sift` meets its contract: without a fault the strings that the set holds are the named ones. Assumes nothing.
use Rattle.std.specs.Prelude.{Err}
use borrow.Author.Rules.{rules}
use mathlib.Core.Path.{◌≡◌, refl}
use native.Mathlib.Omega.{arith}
use Rattle.name_filter.specs.Steps.{stopped}
use Rattle.name_filter.proofs.Sifting.{sift_said}
use Rattle.name_filter.proofs.sift.Goals as goal

pub returns-in_err-mark : goal.returns-in_err-mark
returns-in_err-mark c =
    let why = c.in_err-mark.field-0.0 in
    let e : c.from_residual.result ≡ Err why = search rules in
    rw e (stopped why refl c.in_err-mark.ensures.fault)

pub returns : goal.returns
returns c =
    sift_said c.in_ok-mark.ensures refl (omega (arith, c.requires.small, c.mark.auto)) c.requires.clear c.gather.ensures (grind arith)
