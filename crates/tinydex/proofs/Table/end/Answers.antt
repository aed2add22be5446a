-- `Table::end` meets its contract: a 32-bit number times a byte has at most 40 bits, so that nothing wraps.
-- Assumes nothing.
use Prim.Native.Nat.{ℕ, ◌*◌, ◌^◌, ◌<◌, ◌≤◌}
use native.Mathlib.Nat.{mul-le-mul_right}
use native.Mathlib.Omega.{arith}
use Rattle.tinydex.proofs.Table.end.Goals as goal

product : (a b : ℕ) → a < 256 → b < 2 ^ 32 → a * b < 2 ^ 40
product a b h k = omega (arith, mul-le-mul_right b (le a h))
  where
    le : (a : ℕ) → a < 256 → a ≤ 255
    le a h = omega arith

pub overflow_mul-result : goal.overflow_mul-result
overflow_mul-result c =
    let a = c.args.item in
    let b = c.args.self.size in
    let p = product a b (omega arith) (omega arith) in
    omega arith

pub overflow_add-result : goal.overflow_add-result
overflow_add-result c =
    let a = c.args.item in
    let b = c.args.self.size in
    let p = product a b (omega arith) (omega arith) in
    omega arith
