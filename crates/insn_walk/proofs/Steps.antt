-- Laws of a step, the only ones that open its definition: a payload inside the file is stepped over whole, elsewhere an opcode with a length
-- leads past its instruction; and whatever the definition, a step goes forward and leaves a place inside the file.
-- Assumes nothing.
use Rattle.std.specs.Prelude.{None, Some}
use mathlib.Core.Path.{◌≡◌, refl, sym, ◌∙◌}
use mathlib.Core.Bool.{Bool, true, false, ◌&&◌}
use mathlib.Core.List.{List}
use Prim.Native.Nat.{ℕ, ◌+◌, ◌*◌, ◌%◌, ◌≤◌, ◌<◌}
use native.Mathlib.Omega.{arith}
use lib.Dec.{ltb, leb}
use lib.ListN.{length}
use borrow.Author.Tests.{lt-ltb, le-ltb, ltb-true, ltb-false, le-leb, lt-leb, leb-true}
use Rattle.words.proofs.Shared.{and_left, and_right}
use Rattle.dalvik.specs.Numbers.{byte}
use Rattle.opcodes.specs.Length.{units_of}
use Rattle.insn_walk.specs.Walk.{payload_units, past, step}
use Rattle.insn_walk.proofs.Payloads.{none_outside}

module _ (s : List ℕ) (p : ℕ) where
  -- a payload of n units opens at p
  by_payload : (n : ℕ) → payload_units s p ≡ n → 0 < n → step s p ≡ past (leb (p + 2 * n) (length s)) p n
  unfolding step
  by_payload n e h = rw (e, lt-ltb 0 n h)

  -- none does
  by_opcode : payload_units s p ≡ 0 → step s p ≡ past (ltb p (length s) && ltb 0 (units_of (byte s p))) p (units_of (byte s p))
  unfolding step
  by_opcode e = rw e

  pub payload_cut : (n : ℕ) → payload_units s p ≡ n → 0 < n → length s < p + 2 * n → step s p ≡ None
  payload_cut n e h l = by_payload n e h ∙ rw (lt-leb (p + 2 * n) (length s) l)

  pub payload_step : (n : ℕ) → payload_units s p ≡ n → 0 < n → p + 2 * n ≤ length s → step s p ≡ Some (p + 2 * n)
  payload_step n e h l = by_payload n e h ∙ rw (le-leb (p + 2 * n) (length s) l)

  pub step_outside : length s ≤ p → None ≡ step s p
  step_outside h = sym (by_opcode (none_outside s p h) ∙ rw (le-ltb p (length s) h))

  module _ (no_payload : payload_units s p ≡ 0) (inside : p < length s) where
    pub opcode_unknown : units_of (byte s p) ≡ 0 → step s p ≡ None
    opcode_unknown e = by_opcode no_payload ∙ rw (lt-ltb p (length s) inside, e)

    pub opcode_step : (n : ℕ) → units_of (byte s p) ≡ n → 0 < n → step s p ≡ Some (p + 2 * n)
    opcode_step n e l = by_opcode no_payload ∙ rw (lt-ltb p (length s) inside, e, lt-ltb 0 n l)

-- a payload of four units at least, with fewer than eight bytes left
pub data_cut : (s : List ℕ) (p : ℕ) → 4 ≤ payload_units s p → length s < p + 4 + 4 → step s p ≡ None
data_cut s p h l = payload_cut s p (payload_units s p) refl (omega arith) (omega arith)

-- nop takes a unit
pub nop_step : (s : List ℕ) (p : ℕ) → payload_units s p ≡ 0 → p < length s → byte s p ≡ 0 → step s p ≡ Some (p + 2)
unfolding units_of
nop_step s p e h z = opcode_step s p e h 1 (rw z) (omega arith)

-- ---- whatever stands there

-- a step from p to q begins inside the file, and goes forward by whole units
pub record Stepped (s : List ℕ) (p q : ℕ) : Type 0 where
  pub inside : p < length s
  pub forward : p + 2 ≤ q
  pub even : q % 2 ≡ p % 2

stepped_by : (s : List ℕ) (p q n : ℕ) (b : Bool) → (b ≡ true → p < length s) → (b ≡ true → 0 < n) → Some q ≡ past b p n → Stepped s p q
stepped_by s p q n false l g e = absurd (let z : ◌≡◌ {A = ℕ} 0 1 = cc in omega arith)
stepped_by s p q n true l g e =
    let f : q ≡ p + 2 * n = cc in
    record { inside = l refl; forward = omega (arith, g refl); even = omega arith }

keeps_by : (s : List ℕ) (p q : ℕ) (b : Bool) → ltb 0 (payload_units s p) ≡ b → Some q ≡ step s p → Stepped s p q
keeps_by s p q false t e =
    let n : ℕ = units_of (byte s p) in
    stepped_by s p q n (ltb p (length s) && ltb 0 n)
    (λ z. ltb-true p (length s) (and_left (ltb p (length s)) (ltb 0 n) z))
    (λ z. ltb-true 0 n (and_right (ltb p (length s)) (ltb 0 n) z))
    (e ∙ by_opcode s p (omega (arith, ltb-false 0 (payload_units s p) t)))
keeps_by s p q true t e =
    let n : ℕ = payload_units s p in
    let some_units : 0 < n = ltb-true 0 n t in
    stepped_by s p q n (leb (p + 2 * n) (length s))
    (λ z. omega (arith, leb-true (p + 2 * n) (length s) z, some_units))
    (λ z. some_units)
    (e ∙ by_payload s p n refl some_units)

pub step_keeps : (s : List ℕ) (p q : ℕ) → Some q ≡ step s p → Stepped s p q
step_keeps s p q e = keeps_by s p q (ltb 0 (payload_units s p)) refl e
