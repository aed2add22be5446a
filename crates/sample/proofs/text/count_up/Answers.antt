use Rattle.std.proofs.Common.{add-one, rules}
use Rattle.sample.specs.Steps.{counted_up}
use Rattle.sample.proofs.text.count_up.Goals as goal

pub loop-k-init : goal.loop-k-init
unfolding counted_up
loop-k-init c = search rules

pub loop-k-preserved : goal.loop-k-preserved
unfolding counted_up
loop-k-preserved c =
    let p = c.put.ensures in
    let q = c.loop-k.invariant in
    rw (add-one c.loop-k.k, p, q)
