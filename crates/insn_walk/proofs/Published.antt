-- A step is the published length of what stands there. A payload's length is by the same numbers in both, and bytes tell a unit's two halves
-- apart; an instruction's is that of its format, by the opcodes' own law.
-- Assumes nothing.
use Rattle.std.specs.Prelude.{Some}
use mathlib.Core.Path.{◌≡◌, refl, ◌∙◌, ap}
use mathlib.Core.Bool.{Bool, true, false}
use mathlib.Core.List.{List}
use Prim.Native.Nat.{ℕ, ◌+◌, ◌*◌, ◌≤◌, ◌<◌}
use native.Mathlib.Omega.{arith}
use lib.Dec.{eqb, ltb}
use lib.ListN.{length}
use borrow.Author.Tests.{eqb-true, eqb-false, ltb-true, ltb-false}
use Rattle.dalvik.specs.Numbers.{byte, le16, Bytes}
use Rattle.dalvik.specs.Instructions.{Payload, Instruction}
use Rattle.dalvik.specs.Instructions.Payload.{packed_switch, sparse_switch, fill_array_data}
use Rattle.dalvik.proofs.Payloads.{not_both}
use Rattle.opcodes.proofs.Published.{units_published}
use Rattle.insn_walk.specs.Walk.{units_by, payload_units, step}
use Rattle.insn_walk.proofs.Payloads.{units_low, none_low}
use Rattle.insn_walk.proofs.Steps.{payload_step, opcode_step}

module _ (s : List ℕ) (B : Bytes s) (p : ℕ) where
  -- the two bytes of a unit
  unit_of : (high : ℕ) → le16 s p ≡ 256 * high → (byte s p ≡ 0) × (byte s (p + 1) ≡ high)
  unfolding le16
  unit_of high e = (omega (arith, B p, B (p + 1)), omega (arith, B p, B (p + 1)))

  opens : (high : ℕ) → le16 s p ≡ 256 * high → payload_units s p ≡ units_by s p high
  opens high e = units_low s p (unit_of high e).0 ∙ ap (units_by s p) (unit_of high e).1

  -- the length of a published payload
  pub published_payload : {n : ℕ} → Payload s p n → payload_units s p ≡ n
  published_payload (packed_switch e) = opens 1 e
  published_payload (sparse_switch e) = opens 2 e
  published_payload (fill_array_data e) = opens 3 e

  pub payload_low : {n : ℕ} → Payload s p n → byte s p ≡ 0
  payload_low (packed_switch e) = (unit_of 1 e).0
  payload_low (sparse_switch e) = (unit_of 2 e).0
  payload_low (fill_array_data e) = (unit_of 3 e).0

  -- and a payload is published wherever there is a length
  payload_by : (high : ℕ) → le16 s p ≡ 256 * high → (a b c : Bool) → eqb high 1 ≡ a → eqb high 2 ≡ b → eqb high 3 ≡ c → 0 < units_by s p high
      → Payload s p (units_by s p high)
  payload_by high e true b c x y z l = rw x (packed_switch (omega (arith, e, eqb-true high 1 x)))
  payload_by high e false true c x y z l = rw (x, y) (sparse_switch (omega (arith, e, eqb-true high 2 y)))
  payload_by high e false false true x y z l = rw (x, y, z) (fill_array_data (omega (arith, e, eqb-true high 3 z)))
  payload_by high e false false false x y z l = absurd (let q : 0 < 0 = rw (x, y, z) at l in omega arith)

  length_by : (b : Bool) → eqb (byte s p) 0 ≡ b → 0 < payload_units s p → Payload s p (payload_units s p)
  unfolding le16
  length_by false t l = absurd (omega (arith, none_low s p (eqb-false (byte s p) 0 t)))
  length_by true t l =
      let high : ℕ = byte s (p + 1) in
      let low : byte s p ≡ 0 = eqb-true (byte s p) 0 t in
      rw (units_low s p low)
      (payload_by high (omega (arith, low)) (eqb high 1) (eqb high 2) (eqb high 3) refl refl refl (omega (arith, l, units_low s p low)))

  pub payload_published : 0 < payload_units s p → Payload s p (payload_units s p)
  payload_published l = length_by (eqb (byte s p) 0) refl l

  none_by : {n : ℕ} (b : Bool) → ltb 0 (payload_units s p) ≡ b → Instruction s p n → payload_units s p ≡ 0
  none_by false t i = omega (arith, ltb-false 0 (payload_units s p) t)
  none_by true t i = absurd (not_both (payload_published (ltb-true 0 (payload_units s p) t)) i)

  -- ---- the step

  pub step_instruction : {n : ℕ} → Instruction s p n → p < length s → step s p ≡ Some (p + 2 * n)
  step_instruction {n} i h =
      opcode_step s p (none_by (ltb 0 (payload_units s p)) refl i) h n (units_published (byte s p) (B p) ∙ i.size) i.some_size

  some_units : {n : ℕ} → Payload s p n → 0 < n
  some_units (packed_switch e) = omega arith
  some_units (sparse_switch e) = omega arith
  some_units (fill_array_data e) = omega arith

  pub step_payload : {n : ℕ} → Payload s p n → p + 2 * n ≤ length s → step s p ≡ Some (p + 2 * n)
  step_payload {n} l h = payload_step s p n (published_payload l) (some_units l) h
