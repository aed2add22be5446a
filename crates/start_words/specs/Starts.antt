-- How start words lie in a list: words 2m and 2m + 1 are where the array of method m starts and ends, 0 and 0 without code. The laws are in
-- proofs/Starts.antt; callers cite them and unfold nothing.
-- Assumes nothing.
use Rattle.std.specs.Prelude.{ℕ, ◌+◌, ◌*◌, ◌/◌, List, cond, length, get_or, set, take, ltb, Option, None, Some}
use Rattle.words.specs.Padded.{zeros}
use Rattle.start_words.specs.declared.Pair.{Pair}

-- how many pairs n words are: an odd last word counts for nothing
abbrev pub pairs_in : ℕ → ℕ
pairs_in n = n / 2

abbrev pub pair_count : List ℕ → ℕ
pair_count ws = pairs_in (length ws)

-- where an array starts, and the first offset after it
abbrev pub pair : ℕ → ℕ → Pair
pair start end = record { start = start; end = end }

-- the pair of method m; none without both words
unfoldable pub pair_of : List ℕ → ℕ → Option Pair
pair_of ws m = cond (ltb m (pair_count ws)) (Some (pair (get_or ws (2 * m) 0) (get_or ws (2 * m + 1) 0))) None

-- those of the first n methods; all of them where there are no more
unfoldable pub first_starts : ℕ → List ℕ → List ℕ
first_starts n ws = take (2 * n) ws

-- its array starts at a and ends at e; the same list without both words
unfoldable pub with_array : List ℕ → ℕ → ℕ → ℕ → List ℕ
with_array ws m a e = cond (ltb m (pair_count ws)) (set (set ws (2 * m) a) (2 * m + 1) e) ws

-- n methods without code
unfoldable pub no_starts : ℕ → List ℕ
no_starts n = zeros (2 * n)
