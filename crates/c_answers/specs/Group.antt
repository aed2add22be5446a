-- Where the group of a key stands: the stretch of `groups::slice` as a start and a count, 0 and 0 where it has none.
-- Assumes nothing.
use Rattle.std.specs.Prelude.{ℕ, ◌+◌, ◌≤◌, ◌≡◌, List, Bool, cond, ◌&&◌, length, get_or, take, drop, ltb, leb}
use Rattle.groups.specs.Stretch.{stretch_of}

-- the offsets have the key's word and the next, and both are inside the n ids, in this order
unfoldable pub bounded : List ℕ → ℕ → ℕ → Bool
bounded offs n k = ltb (k + 1) (length offs) && (leb (get_or offs k 0) (get_or offs (k + 1) 0) && leb (get_or offs (k + 1) 0) n)

unfoldable pub start_of : List ℕ → ℕ → ℕ → ℕ
start_of offs n k = cond (bounded offs n k) (get_or offs k 0) 0

-- the group is `count` ids from `start` on
pub record GroupAt (offs ids : List ℕ) (k : ℕ) (start count : ℕ) : Type 0 where
  pub first : start ≡ start_of offs (length ids) k
  pub inside : start + count ≤ length ids
  pub stretch : take count (drop start ids) ≡ stretch_of offs ids k
