-- A test, by its answer: the other answer is another constructor.
-- Assumes nothing.
use Prim.Native.Nat.{ℕ}
use mathlib.Core.Path.{◌≡◌}
use mathlib.Core.Bool.{true, false}
use native.Mathlib.Omega.{arith}
use Rattle.word_set.specs.Steps.{Decides}

pub decided_yes : {P : Type 0} → P → Decides P true
decided_yes p = record { yes = λ e. p; no = λ e. absurd (let z : ◌≡◌ {A = ℕ} 0 1 = cc in omega arith) }

pub decided_no : {P : Type 0} → (P → ⊥) → Decides P false
decided_no n = record { yes = λ e. absurd (let z : ◌≡◌ {A = ℕ} 0 1 = cc in omega arith); no = λ e. n }
