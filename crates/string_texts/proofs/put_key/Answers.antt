-- `put_key` meets its contract: the key of the text that begins, whose place is inside the file and so small.
-- Assumes nothing.
use Prim.Native.Nat.{◌≤◌}
use mathlib.Core.Path.{refl}
use native.Mathlib.Omega.{arith}
use Rattle.refusal.specs.Refusals.{largest_file}
use Rattle.string_texts.proofs.Keys.{begin_small}
use Rattle.string_texts.proofs.put_key.Goals.{In_ok-at}
use Rattle.string_texts.proofs.put_key.Goals as goal

small_place : (c : In_ok-at) → c.in_ok-at.at ≤ largest_file
small_place c = begin_small _ _ _ _ (λ i. omega (arith, c.type_inv.file i)) c.requires.0.small refl c.in_ok-at.ensures

pub overflow_mul-at : goal.overflow_mul-at
overflow_mul-at c = omega (arith, small_place (goal.at.overflow_mul-at c).In_ok-at)

pub overflow_add-at : goal.overflow_add-at
overflow_add-at c = omega (arith, small_place (goal.at.overflow_add-at c).In_ok-at)
