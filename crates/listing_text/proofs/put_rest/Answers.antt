use Rattle.listing_text.proofs.TextLaws.{rest_none, more_next}
use Rattle.listing_text.proofs.put_rest.Goals as goal

pub loop-method-init : goal.loop-method-init
loop-method-init c = rest_none _ _

pub loop-method-preserved : goal.loop-method-preserved
loop-method-preserved c =
    let l = c.loop-method in
    more_next c.args.methods.now l.method-index c.loop-method-test.true l.invariant c.put_named-p.ensures
