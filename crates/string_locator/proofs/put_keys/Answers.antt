use Rattle.string_locator.proofs.Laws.{keys_none, keys_more}
use lib.ListN.{set}
use mathlib.Core.List.{List}
use mathlib.Core.Path.{ap, ◌∙◌}
use Prim.Native.Nat.{ℕ, ◌+◌, ◌*◌}
use native.Mathlib.Omega.{arith}
use Rattle.string_locator.proofs.put_keys.Goals as goal

pub loop-i-init : goal.loop-i-init
loop-i-init c = keys_none _ _ _

pub loop-i-preserved : goal.loop-i-preserved
loop-i-preserved c =
    let i = c.loop-i.i in
    let key = ap (λ (o : ℕ). o * 4294967296 + i) c.data_offset-offset.ensures in
    let k = c.data_offset-offset.result * 4294967296 + i in
    ap (λ (l : List ℕ). set l i k) c.loop-i.invariant ∙ keys_more _ _ _ i k (omega arith) key
