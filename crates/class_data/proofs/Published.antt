-- Published numbers one after another are skipped to the offset after them: each is as long as its reader counts.
-- Assumes nothing.
use Rattle.std.specs.Prelude.{Ok}
use Prim.Native.Nat.{ℕ, ◌+◌, ◌-◌}
use native.Mathlib.Omega.{arith}
use mathlib.Core.Path.{◌≡◌, refl}
use mathlib.Core.List.{List}
use Rattle.dalvik.specs.Numbers.{Uleb128, Uleb128s}
use Rattle.leb128.proofs.Published.{ends_after, len_published}
use Rattle.class_data.specs.Walk.{skipped}

-- the offset after a number, as the walk counts it
pub on : {s : List ℕ} {i v e : ℕ} → Uleb128 s i v e → i + (e - i) ≡ e
on u = omega (arith, ends_after u.number)

pub numbers_skipped : {s : List ℕ} {n i e : ℕ} → Uleb128s s n i e → skipped n s i ≡ Ok e
unfolding skipped
numbers_skipped Uleb128s.no_more = refl
numbers_skipped (Uleb128s.one_more u r) = rw (len_published u, on u) (numbers_skipped r)
