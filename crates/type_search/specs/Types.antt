-- What type search finds: SPEC, Searches (`locate` of type_locator.rs).
-- Assumes nothing.
use Rattle.refusal.specs.declared.Refusal.{Refusal}
use Rattle.std.specs.Prelude.{ℕ, ◌≡◌, cond, List, length, eqb, ltb, Result}
use Rattle.words.specs.Padded.{zeros}
use Rattle.groups.specs.Built.{GroupWords}
use Rattle.groups.specs.Stretch.{stretch_of}
use Rattle.word_set.specs.Sets.{In, SetOf}
use Rattle.word_set.specs.Found.{Found}
use Rattle.string_search.specs.Search.{Area, Owns, search_fault}

-- x is in the group of a string that owns a find of q
pub record TypeFound (w : Area) (q : List ℕ) (table : GroupWords) (x : ℕ) : Type 0 where
  pub string : ℕ
  pub owns : Owns w q string
  pub among : In x (stretch_of table.offs table.ids string)

-- the lent words: for the strings found, and for the types
pub record TypeWords : Type 0 where
  pub strings : List ℕ
  pub types : List ℕ

abbrev pub type_words : List ℕ → List ℕ → TypeWords
type_words ss ts = record { strings = ss; types = ts }

-- a fault, and else 4 where `room` lent words are fewer than a list that they are to hold
abbrev pub or_short : ℕ → ℕ → List ℕ → ℕ
or_short fault room xs = cond (eqb fault 0) (cond (ltb room (length xs)) 4 0) fault

-- the answer and the types; and the words lent for the strings found are zero
pub record Searched (w : Area) (q : List ℕ) (table : GroupWords) (r : Result ℕ Refusal) (before after : TypeWords) : Type 0 where
  pub strings : List ℕ
  pub owners : SetOf (Owns w q) strings
  pub types : Found (TypeFound w q table) (or_short (search_fault (length w.file) 0 (length q) w.keys) (length before.strings) strings) r
      before.types after.types
  pub cleared : after.strings ≡ zeros (length before.strings)
