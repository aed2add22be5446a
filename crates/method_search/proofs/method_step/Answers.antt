-- A method that fits is inserted, and another changes nothing.
-- Assumes nothing.
use Rattle.method_search.specs.Steps.{joined, passed}
use mathlib.Core.Path.{refl}
use Rattle.method_search.proofs.method_step.Goals as goal

pub returns-then-method_fits : goal.returns-then-method_fits
returns-then-method_fits c =
    joined (c.method_fits.ensures.yes c.if-method_fits.true) c.insert.ensures

pub returns : goal.returns
returns c = passed (c.method_fits.ensures.no c.if-method_fits.false) refl refl
