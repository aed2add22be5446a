use mathlib.Core.Path.{◌≡◌, subst, ap, ◌∙◌}
use Prim.Native.Nat.{ℕ, ◌+◌}
use native.Mathlib.Omega.{arith}
use lib.ListN.{replicate, set}
use lib.Seq.{paste}
use Rattle.std.proofs.lemmas.List.Edits.{fill_from_more}
use Rattle.words.proofs.set_all.Goals as goal

pub loop-x-preserved : goal.loop-x-preserved
loop-x-preserved g c =
    let w = c.args.w.now in
    let i = c.loop-x.x-index in
    let v = c.args.v in
    let place : 0 + i ≡ i = omega arith in
    ap (λ xs. set xs i v) c.loop-x.invariant
    ∙ subst (λ (k : ℕ). set (paste w 0 (replicate i v) i) k v ≡ paste w 0 (replicate (i + 1) v) (i + 1)) place
    (fill_from_more w 0 i v (omega arith))
