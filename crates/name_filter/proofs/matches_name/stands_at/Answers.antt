-- `matches_name::stands_at` meets its contract: the part of the text is compared, case ignored.
-- Assumes nothing.
use Rattle.name_filter.proofs.HasName.{same_name}
use Rattle.name_filter.proofs.matches_name.stands_at.Goals as goal
use lib.ListN.{length}
use native.Mathlib.Omega.{arith}
use mathlib.Core.Path.{◌≡◌}
use Prim.Native.Nat.{◌+◌, ◌-◌}

pub returns : goal.returns
returns c =
    let a = c.args in
    let n : a.at + length a.query.now - a.at ≡ length a.query.now = omega arith in
    same_name a.text.now a.query.now a.at (rw n at c.eq_ignore_ascii_case.ensures.test)
