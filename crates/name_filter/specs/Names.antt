-- What the name filter keeps: SPEC, Name filter (`locate_name_indices` of string_locator.rs).
-- Assumes nothing.
use Rattle.std.specs.Prelude.{ℕ, List}
use Rattle.dalvik.specs.Ids.{string_data_off}
use Rattle.string_data.specs.Text.{string_text, stretch_of}
use Rattle.word_set.specs.Sets.{In}
use Rattle.name_filter.specs.HasName.{HasName}

-- the text of string i, by the string ids at `table`
abbrev pub name_text : List ℕ → ℕ → ℕ → List ℕ
name_text s table i = stretch_of s (string_text s (string_data_off s table i))

-- x is given, and its text has the name
pub record Named (s : List ℕ) (table : ℕ) (q given : List ℕ) (x : ℕ) : Type 0 where
  pub listed : In x given
  pub has : HasName (name_text s table x) q
