-- What the walk leaves in lent words: three words for each code found, and the start words of each method.
-- Assumes nothing.
use Rattle.std.specs.Prelude.{ℕ, ◌-◌, ◌/◌, List, [], ◌∷◌}
use Rattle.start_words.specs.Starts.{with_array, no_starts}
use Rattle.dalvik.specs.CodeItem.{Code, start, stop}

-- the two lent slices
pub record CodeWords : Type 0 where
  pub triples : List ℕ
  pub starts : List ℕ

abbrev pub code_words : List ℕ → List ℕ → CodeWords
code_words triples starts = record { triples = triples; starts = starts }

-- the buckets of 16 bytes that hold the array's first and last byte
abbrev pub first_bucket : Code → ℕ
first_bucket c = start c / 16

abbrev pub last_bucket : Code → ℕ
last_bucket c = (stop c - 1) / 16

-- first bucket, last bucket and method of each code
unfoldable pub triples_of : List Code → List ℕ
triples_of [] = []
triples_of (c ∷ cs) = first_bucket c ∷ last_bucket c ∷ c.method ∷ triples_of cs

-- the start words of a method are those of its code found last
abbrev pub starts_from : List ℕ → List Code → List ℕ
starts_from ws [] = ws
starts_from ws (c ∷ cs) = starts_from (with_array ws c.method (start c) (stop c)) cs

-- 0 and 0 for a method without code; m counts the method ids
unfoldable pub starts_of : ℕ → List Code → List ℕ
starts_of m cs = starts_from (no_starts m) cs
