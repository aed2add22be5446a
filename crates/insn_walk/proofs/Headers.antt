-- What the functions that step over a payload read of its header is its length, and too small for any sum of it to wrap.
-- Assumes nothing.
use mathlib.Core.Path.{◌≡◌, ◌∙◌}
use mathlib.Core.Logic.{◌≢◌}
use mathlib.Core.List.{List}
use Prim.Native.Nat.{ℕ, ◌+◌, ◌*◌, ◌/◌, ◌^◌, ◌≤◌, ◌<◌}
use native.Mathlib.Nat.{mul-le-mul}
use native.Mathlib.Omega.{arith}
use borrow.Author.Tests.{ne_eqb}
use Rattle.dalvik.specs.Numbers.{byte, le32}
use Rattle.structs.specs.Reads.{HalfAt}
use Rattle.insn_walk.specs.Walk.{units_by, payload_units}
use Rattle.insn_walk.specs.Steps.{AtZero, PayloadAt}
use Rattle.insn_walk.proofs.Payloads.{units_low}

pub product_small : (z w : ℕ) → z < 2 ^ 32 → w < 65536 → z * w < 2 ^ 48
product_small z w h k =
    let a : z ≤ 4294967295 = omega arith in
    let b : w ≤ 65535 = omega arith in
    let c : z * w ≤ 4294967295 * 65535 = mul-le-mul a b in
    omega arith

module _ (s : List ℕ) (p high : ℕ) (there : AtZero s p) (is : high ≡ byte s (p + 1)) where
  units_told : payload_units s p ≡ units_by s p high
  units_told = units_low s p there.zero ∙ rw is

  pub packed : {v : ℕ} → high ≡ 1 → HalfAt s (p + 2) v → PayloadAt s p (v * 2 + 4)
  packed {v} e h =
      record { inside = there.inside; units = units_told ∙ rw (e, h.is); some_units = omega arith; small = omega (arith, h.small) }

  pub sparse : {v : ℕ} → high ≡ 2 → HalfAt s (p + 2) v → PayloadAt s p (v * 4 + 2)
  sparse {v} e h =
      record { inside = there.inside; units = units_told ∙ rw (e, h.is); some_units = omega arith; small = omega (arith, h.small) }

  pub array_data : {w z : ℕ} → high ≡ 3 → HalfAt s (p + 2) w → z ≡ le32 s (p + 4) → z < 2 ^ 32 → PayloadAt s p ((z * w + 1) / 2 + 4)
  array_data {w} {z} e h f l = record {
    inside = there.inside;
    units = units_told ∙ rw (e, h.is, f);
    some_units = omega arith;
    small = omega (arith, product_small z w l h.small);
  }

  -- four units at least
  pub some_data : high ≡ 3 → 4 ≤ payload_units s p
  some_data e =
      let f : payload_units s p ≡ units_by s p 3 = units_told ∙ rw e in
      omega (arith, f)

  pub no_payload : high ≢ 1 → high ≢ 2 → high ≢ 3 → payload_units s p ≡ 0
  no_payload a b c = units_told ∙ rw (ne_eqb high 1 a, ne_eqb high 2 b, ne_eqb high 3 c)
