-- The part of the file is the query where its bytes stand.
-- Assumes nothing.
use lib.ListN.{length, take, drop}
use mathlib.Core.Path.{◌≡◌}
use native.Mathlib.Omega.{arith}
use Prim.Native.Nat.{◌+◌, ◌-◌}
use Rattle.std.proofs.lemmas.Bool.Decides.{Decides-eqb}
use Rattle.std.proofs.lemmas.Slice.Eq.{slice_eq-Decides}
use Rattle.string_search.proofs.stands_at.Goals as goal

pub returns : goal.returns
returns c =
    let a = c.args in
    let q = a.query.now in
    let n : a.at + length q - a.at ≡ length q = omega arith in
    let d = slice_eq-Decides Decides-eqb (take (length q) (drop a.at a.file.now)) q c.eq.result (rw n at c.eq.ensures) in
    record { yes = d.0; no = λ e st. let f = d.1 st in cc }
