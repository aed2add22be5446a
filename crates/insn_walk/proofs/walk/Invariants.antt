-- At every turn the steps taken and the walk that is left make up the whole walk, and to a later target it goes on from the place before too; below
-- the bound a place is in the file and before the target.
-- Assumes nothing.
use Prim.Native.Nat.{ℕ, ◌-◌, ◌≤◌, min, max}
use mathlib.Core.Path.{◌≡◌}
use mathlib.Core.List.{List}
use lib.ListN.{length}
use Rattle.insn_walk.specs.Walk.{after_steps, walk, lands}
use Rattle.insn_walk.proofs.walk.Given as goal

-- the place before is `at`, and the place now `pos`
pub record Going (s : List ℕ) (start end at pos steps : ℕ) : Type 0 where
  pub taken : after_steps steps (walk s pos end) ≡ walk s start end
  pub few : steps ≤ pos
  pub stood : start ≤ at
  pub stands : start ≤ pos
  pub most : at ≤ max start end
  pub before : (u : ℕ) → end ≤ u → lands s at u ≡ lands s start u
  pub now : (u : ℕ) → end ≤ u → lands s pos u ≡ lands s start u

abbrev pub invariant-loop-pos : goal.invariant-loop-pos
invariant-loop-pos l = Going l.buf l.start l.end l.at l.pos l.steps × (l.to ≡ l.end) × (l.bound ≡ min l.end (length l.buf))

abbrev pub decreases-loop-pos : goal.decreases-loop-pos
decreases-loop-pos l = l.end - l.pos
