-- What the inner steps of the string map are asked.
-- Assumes nothing.
use Rattle.std.specs.Prelude.{ℕ, ◌^◌, ◌<◌, ◌≤◌, List, length}
use Rattle.dalvik.specs.Ids.{item, string_id_size}

-- the ids of n strings are inside the file
pub record Inside (s : List ℕ) (table n : ℕ) : Type 0 where
  pub ids : 0 < n → item table string_id_size n ≤ length s
  pub few : n < 2 ^ 32
