-- What it is for bytes to stand somewhere in others: shared by string search and the name filter.
-- A place is an offset in the bytes s; e is where they are to end at the latest.
-- Assumes nothing.
use Rattle.std.specs.Prelude.{ℕ, ◌+◌, ◌≤◌, ◌≡◌, List, length, take, drop}

-- the bytes q stand at p
abbrev pub Stands : List ℕ → List ℕ → ℕ → Type 0
Stands s q p = take (length q) (drop p s) ≡ q

-- .. and all of them before the area's end
pub record Occurs (s q : List ℕ) (e p : ℕ) : Type 0 where
  pub inside : p + length q ≤ e
  pub bytes : Stands s q p
