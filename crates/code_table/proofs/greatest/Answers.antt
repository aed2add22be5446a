use mathlib.Core.Path.{ap, ◌∙◌}
use Prim.Native.Nat.{ℕ, ◌+◌, ◌<◌, max}
use lib.ListN.{length, drop}
use Rattle.code_table.specs.Slots.{top_of}
use Rattle.code_table.proofs.Slots.{last_word, top_step}
use native.Mathlib.Omega.{arith}
use Rattle.code_table.proofs.greatest.Goals as goal

pub overflow_add-triples : goal.overflow_add-triples
overflow_add-triples c =
    let C = c.requires in
    let i = c.loop-i.i in
    let h : c.loop-i.i < c.args.n = omega arith in
    let s = (C.triples.sound i h).inside in
    omega (arith, last_word C.triples i h)

pub loop-i-preserved : goal.loop-i-preserved
loop-i-preserved c = λ cs T.
    let l = c.loop-i in
    let h : c.loop-i.i < c.args.n = omega arith in
    let k : l.i < length cs = omega (arith, T.count) in
    ap (λ (x : ℕ). max x (top_of (drop (l.i + 1) cs))) (c.max-r.ensures ∙ ap (λ (x : ℕ). max l.r (x + 1)) (last_word T l.i h))
    ∙ top_step l.r cs l.i k
    ∙ l.invariant cs T
