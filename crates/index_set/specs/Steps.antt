-- What the inner steps of the searches are asked of the marks that they take.
-- Assumes nothing.
use Rattle.std.specs.Prelude.{ℕ, ◌≤◌, ◌≡◌, false, List, length}
use Rattle.index_set.specs.Bits.{is_held}

-- marks that hold none, few enough that the index of each bit is a word
pub record Blank (marks : List ℕ) : Type 0 where
  pub none : (x : ℕ) → is_held marks x ≡ false
  pub few : length marks ≤ 67108864
