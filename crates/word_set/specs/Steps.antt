-- What the inner steps of the searches and of the name filter yield: a test's answer, and a set that was collected in cleared words, before
-- faults are counted in.
-- Assumes nothing.
use Rattle.std.specs.Prelude.{ℕ, ◌≤◌, ◌<◌, ◌≡◌, Bool, true, false, List, length, Option, Some, None}
use Rattle.words.specs.Padded.{padded}
use Rattle.word_set.specs.Sets.{SetOf}

-- r says whether P holds
pub record Decides (P : Type 0) (r : Bool) : Type 0 where
  pub yes : r ≡ true → P
  pub no : r ≡ false → P → ⊥

-- the set, all of which fits the words lent
pub record Whole (P : ℕ → Type 0) (n : ℕ) (before after : List ℕ) : Type 0 where
  pub list : List ℕ
  pub set : SetOf P list
  pub count : length list ≡ n
  pub fits : n ≤ length before
  pub words : after ≡ padded (length before) list

-- .. or it has more than these
pub data Matched (P : ℕ → Type 0) (before after : List ℕ) (r : Option ℕ) : Type 0 where
  all : (n : ℕ) → r ≡ Some n → Whole P n before after → Matched P before after r
  over : r ≡ None → ((l : List ℕ) → SetOf P l → length before < length l) → Matched P before after r
