-- What it is for a text to contain a query, ASCII case ignored: SPEC, Name filter (`matches_name` of string_locator.rs).
-- Assumes nothing.
use Rattle.std.specs.Prelude.{ℕ, ◌+◌, Bool, true, cond, ◌&&◌, List, [], ◌∷◌, map, length, ltb, leb}
use Rattle.byte_search.specs.Occurs.{Occurs}

-- ASCII case ignored: a letter A to Z counts as its small letter
unfoldable pub lower_case : ℕ → ℕ
lower_case b = cond (leb 0x41 b && leb b 0x5a) (b + 32) b

-- the query stands somewhere in the text, case ignored. The empty query stands in every text
pub record HasName (text q : List ℕ) : Type 0 where
  pub at : ℕ
  pub occurs : Occurs (map lower_case text) (map lower_case q) (length text) at

unfoldable pub is_ascii : List ℕ → Bool
is_ascii [] = true
is_ascii (b ∷ r) = ltb b 128 && is_ascii r
