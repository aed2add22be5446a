use Rattle.text_out.proofs.Laws.{writes_none, writes_next}
use Rattle.text_out.proofs.put.Goals as goal

pub loop-b-init : goal.loop-b-init
loop-b-init c = writes_none _ _

pub loop-b-preserved : goal.loop-b-preserved
loop-b-preserved c =
    let l = c.loop-b in
    writes_next c.args.bytes.now l.b-index c.loop-b-test.true l.invariant c.put_byte-p.ensures
