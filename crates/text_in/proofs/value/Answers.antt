use Rattle.std.proofs.Common.{ℕ, ◌+◌, ◌*◌, drop, arith, sym, ap, ◌∙◌}
use Rattle.text_in.specs.Numbers.{value_from}
use Rattle.text_in.proofs.Laws.{value_end, value_more, value_large, value_fits, value_same}
use Rattle.text_in.proofs.value.Goals as goal

pub returns-then-v-gt-LARGEST_WORD : goal.returns-then-v-gt-LARGEST_WORD
returns-then-v-gt-LARGEST_WORD c =
    let ds = c.args.digits.now in
    let l = c.loop-b in
    let m = value_more ds l.v l.b-index c.loop-b-test.true in
    value_large (10 * l.v + c.digit.result) (drop (l.b-index + 1) ds) c.if-v-gt-LARGEST_WORD.true
    ∙ value_same _ _ _ _ (ap (λ (x : ℕ). value_from (10 * l.v + x) (drop (l.b-index + 1) ds)) c.digit.ensures.is ∙ (sym m ∙ l.invariant.1))

pub loop-b-preserved : goal.loop-b-preserved
loop-b-preserved c =
    let ds = c.args.digits.now in
    let l = c.loop-b in
    let m = value_more ds l.v l.b-index c.loop-b-test.true in (
      omega arith,
      ap (λ (x : ℕ). value_from (10 * l.v + x) (drop (l.b-index + 1) ds)) c.digit.ensures.is ∙ (sym m ∙ l.invariant.1),
    )

pub returns : goal.returns
returns c =
    let ds = c.args.digits.now in
    let l = c.loop-b in
    value_fits l.v (drop l.b-index ds) (value_end ds l.v l.b-index c.loop-b-test.false) (omega arith) ∙ value_same _ _ _ _ l.invariant.1
