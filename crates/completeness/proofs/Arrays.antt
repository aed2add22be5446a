-- The walk from an array's start comes to each place that its instructions and payloads reach, and before the array's end to no other: each step
-- is the published length of what stands there.
-- Assumes nothing.
use Prim.Native.Nat.{ℕ, ◌+◌, ◌*◌, ◌≤◌, ◌<◌}
use native.Mathlib.Omega.{arith}
use mathlib.Core.Path.{◌≡◌, sym, ◌∙◌}
use mathlib.Core.List.{List}
use lib.ListN.{length}
use Rattle.words.proofs.Shared.{some_inj}
use Rattle.dalvik.specs.Numbers.{Bytes}
use Rattle.dalvik.specs.Instructions.{Payload, Instruction, Reached}
use Rattle.dalvik.specs.Instructions.Reached.{here, past_payload, past_instruction}
use Rattle.insn_walk.proofs.Published.{step_payload, step_instruction}
use Rattle.insn_walk.proofs.Walks.{Steps, onward, steps_le}

-- what stands at t, in an array from a to e
pub data Standing (s : List ℕ) (e a t : ℕ) : Type 0 where
  payload : {n : ℕ} → Payload s t n → Standing s e a t
  instruction : {n : ℕ} → Reached s e a t → Instruction s t n → t + 2 * n ≤ e → Standing s e a t

from_before : {s : List ℕ} {e a b t : ℕ} → (Reached s e b t → Reached s e a t) → Standing s e b t → Standing s e a t
from_before f (payload l) = payload l
from_before f (instruction r i g) = instruction (f r) i g

module _ {s : List ℕ} {e : ℕ} (B : Bytes s) (inside : e ≤ length s) where
  pub comes_to : {a p : ℕ} → Reached s e a p → Steps s a p
  comes_to (here h) = Steps.here h
  comes_to {a} (past_payload l f r) = onward (step_payload s B a l (omega arith)) (comes_to r)
  comes_to {a} (past_instruction i f r) = onward (step_instruction s B a i (omega (arith, i.some_size))) (comes_to r)

  pub lands_within : {a t : ℕ} → Reached s e a e → Steps s a t → t < e → Standing s e a t
  lands_within (here h) r lt = absurd (omega (arith, steps_le r))
  lands_within (past_payload l f x) (Steps.here h) lt = payload (rw h at l)
  lands_within {a} {t} (past_payload {n = n} l f x) (onward {q = b} h r) lt =
      let z : b ≡ a + 2 * n = some_inj (sym h ∙ step_payload s B a l (omega arith)) in
      from_before (past_payload l f) (lands_within x (rw z at r) lt)
  lands_within (past_instruction i f x) (Steps.here h) lt = instruction (here h) (rw h at i) (omega arith)
  lands_within {a} {t} (past_instruction {n = n} i f x) (onward {q = b} h r) lt =
      let z : b ≡ a + 2 * n = some_inj (sym h ∙ step_instruction s B a i (omega (arith, i.some_size))) in
      from_before (past_instruction i f) (lands_within x (rw z at r) lt)
