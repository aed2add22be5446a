-- What the walk's inner steps ask for and promise: the offset after what stands at a place.
-- Assumes nothing.
use Rattle.std.specs.Prelude.{ℕ, ◌<◌, ◌^◌, ◌≡◌, List, length}
use Rattle.dalvik.specs.Numbers.{byte}
use Rattle.insn_walk.specs.Walk as W

-- the byte at p is 0
pub record AtZero (s : List ℕ) (p : ℕ) : Type 0 where
  pub inside : p < length s
  pub zero : byte s p ≡ 0

-- a payload of n units opens at p, and no sum that is made of n wraps
pub record PayloadAt (s : List ℕ) (p n : ℕ) : Type 0 where
  pub inside : p < length s
  pub units : W.payload_units s p ≡ n
  pub some_units : 0 < n
  pub small : n < 2 ^ 48
