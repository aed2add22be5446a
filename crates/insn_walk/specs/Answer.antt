-- What a call of `walk` says: how the walk ends, and where it stands.
-- Assumes nothing.
use Rattle.std.specs.Prelude.{ℕ, ◌≤◌, max, ◌≡◌, List}
use Rattle.insn_walk.specs.Walk as W
use Rattle.insn_walk.specs.Walk.{lands}
use Rattle.insn_walk.specs.declared.Walked.{Walked}

abbrev pub walked_of : Walked → W.Walked
walked_of w = record { lands = w.lands; steps = w.steps }

-- a walk made, and where it stands: the last place of it that is not past its target. To every later target it goes on from there
pub record Walks (s : List ℕ) (start end : ℕ) (r : Walked) : Type 0 where
  pub is : walked_of r ≡ W.walk s start end
  pub forward : start ≤ r.at
  pub most : r.at ≤ max start end
  pub same : (u : ℕ) → end ≤ u → lands s r.at u ≡ lands s start u
