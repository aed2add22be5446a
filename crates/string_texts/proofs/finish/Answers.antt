-- `finish` meets its contract: too few words are cleared, and else their front is sorted.
-- Assumes nothing.
use Prim.Native.Nat.{ℕ}
use mathlib.Core.Path.{refl, ap}
use mathlib.Core.List.{List, ◌++◌}
use lib.ListN.{drop}
use Rattle.string_texts.specs.Steps.Finished.{whole}
use Rattle.string_texts.proofs.finish.Goals as goal

pub returns : goal.returns
returns c =
    let a = c.args in
    whole _ c.if-keys-n.false refl c.memchr.ensures
    (ap (λ (l : List ℕ). l ++ drop a.n a.keys.now) c.sort.ensures)
