use Rattle.byte_search.specs.First.{First}
use Rattle.byte_search.proofs.Firsts.{all_lanes}
use mathlib.Core.Path.{subst}
use native.Mathlib.Omega.{arith}
use Rattle.byte_search.proofs.rest_from.Goals as goal

pub returns : goal.returns
returns g c =
    let inv = c.loop-i.invariant in
    (inv.0, subst (First _ _ _) (omega (arith, inv.0)) (all_lanes c.loop-i-test.false inv.1))
