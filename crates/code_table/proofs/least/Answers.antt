use mathlib.Core.Path.{ap, ◌∙◌}
use Prim.Native.Nat.{ℕ, ◌+◌, ◌<◌, min}
use lib.ListN.{length, drop}
use Rattle.code_table.specs.Slots.{lowest}
use Rattle.code_table.proofs.Slots.{first_word, lowest_step, lowest_seed_word}
use native.Mathlib.Omega.{arith}
use Rattle.code_table.proofs.least.Goals as goal

pub loop-i-init : goal.loop-i-init
loop-i-init c = λ cs T. ap (λ (x : ℕ). lowest x (drop 1 cs)) c.word_at-r.ensures ∙ lowest_seed_word T

pub loop-i-preserved : goal.loop-i-preserved
loop-i-preserved c = λ cs T.
    let l = c.loop-i in
    let h : c.loop-i.i < c.args.n = omega arith in
    let k : l.i < length cs = omega (arith, T.count) in
    ap (λ (x : ℕ). lowest x (drop (l.i + 1) cs)) (c.min-r.ensures ∙ ap (min l.r) (first_word T l.i h))
    ∙ lowest_step l.r cs l.i k
    ∙ l.invariant cs T
