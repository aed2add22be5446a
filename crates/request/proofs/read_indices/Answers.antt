use Rattle.std.proofs.Common.{◌-◌, arith}
use Rattle.std.proofs.lemmas.Grind.{common_steps}
use Rattle.words.proofs.Shared.{met}
use Rattle.request.specs.Request.{indices_at}
use Rattle.request.proofs.Laws.{stored_cons, no_number, last_number, more_numbers}
use Rattle.request.proofs.read_indices.Goals as goal

pub returns-in_err-v : goal.returns-in_err-v
returns-in_err-v c =
    let l = c.loop-n in
    let none = no_number c.args.text.now (16 - l.n) (15 - l.n) l.i (omega arith) (met c.in_err-v.was c.read_number.ensures) in
    grind (arith, none, l.invariant)

pub returns-in_default : goal.returns-in_default
returns-in_default c =
    let l = c.loop-n in
    let last = last_number c.args.text.now (16 - l.n) (15 - l.n) l.i (omega arith) _ (met c.in_ok-v.was c.read_number.ensures) (met c.in_default.is c.read_word.ensures) in
    grind (arith, last, l.invariant)

pub loop-n-preserved : goal.loop-n-preserved
loop-n-preserved c =
    let l = c.loop-n in
    let more = more_numbers c.args.text.now (16 - l.n) (15 - l.n) l.i (omega arith) _ _ (met c.in_ok-v.was c.read_number.ensures) (met c.in-Some.is c.read_word.ensures) in
    grind (arith, more, l.invariant, stored_cons l.n l.wanted c.in_ok-v.v.value (indices_at (15 - l.n) c.args.text.now c.in-Some.next))

pub returns : goal.returns
unfolding indices_at
returns c = grind (arith, common_steps)
