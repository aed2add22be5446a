-- What counting up leaves in lent words.
-- Assumes nothing.
use Rattle.std.specs.Prelude.{ℕ, zero, suc, List, set}

-- the words 0, 1, .. up to n - 1 at the front, as far as there is room
unfoldable pub counted_up : List ℕ → ℕ → List ℕ
counted_up ws zero = ws
counted_up ws (suc n) = set (counted_up ws n) n n
