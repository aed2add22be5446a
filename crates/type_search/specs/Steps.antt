-- What the inner steps of type search are asked, and what they yield.
-- Assumes nothing.
use Rattle.std.specs.Prelude.{ℕ, ◌≡◌, List, length}
use Rattle.words.specs.Padded.{zeros}
use Rattle.groups.specs.Built.{GroupWords}
use Rattle.groups.specs.Stretch.{stretch_of}
use Rattle.word_set.specs.Sets.{In}

abbrev pub Ready : List ℕ → Type 0
Ready out = out ≡ zeros (length out)

-- x is in the group of one of the strings
pub record TypesOf (table : GroupWords) (strings : List ℕ) (x : ℕ) : Type 0 where
  pub string : ℕ
  pub listed : In string strings
  pub among : In x (stretch_of table.offs table.ids string)
