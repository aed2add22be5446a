use Rattle.std.proofs.Common.{◌+◌, ◌<◌, length, arith}
use Rattle.std.proofs.lemmas.Grind.{common_steps}
use Rattle.text_in.proofs.Laws.{word_end, word_off, word_other, word_more}
use Rattle.text_in.proofs.read_word.Goals as goal

pub returns-in_err-b : goal.returns-in_err-b
returns-in_err-b c = grind (arith, common_steps, word_off)

pub returns-then-b-letter : goal.returns-then-b-letter
returns-then-b-letter c = grind (arith, common_steps, word_other)

pub loop-k-preserved : goal.loop-k-preserved
loop-k-preserved c =
    let l = c.loop-k in
    let inside : c.args.at + l.k < length c.args.text.now = grind (arith, common_steps) in
    let more = word_more c.args.letters.now c.args.text.now l.k (c.args.at + l.k) c.loop-k-test.true inside (grind (arith, common_steps)) in
    record { inside = omega arith; same = grind (arith, more, l.invariant.same) }

pub returns : goal.returns
returns c = grind (arith, common_steps, word_end)
