-- Words and line ends in a text. A line ends with a line feed or with the text; letters stand as they are, with no blanks and no carriage
-- returns.
-- Assumes nothing.
use Rattle.std.specs.Prelude.{ℕ, ◌+◌, List, [], ◌∷◌, cond, ◌&&◌, length, get_or, ltb, eqb, Option, Some, None}

-- the letters stand at i, one after another; then the place after them
unfoldable pub word_at : List ℕ → List ℕ → ℕ → Option ℕ
word_at [] s i = Some i
word_at (c ∷ cs) s i = cond (ltb i (length s) && eqb (get_or s i 0) c) (word_at cs s (i + 1)) None

-- at the text's end, or after a line feed
unfoldable pub line_end : List ℕ → ℕ → Option ℕ
line_end s i = cond (eqb i (length s)) (Some i) (cond (ltb i (length s) && eqb (get_or s i 0) 10) (Some (i + 1)) None)
