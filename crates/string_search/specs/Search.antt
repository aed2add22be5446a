-- What string search finds: SPEC, Searches (`_match_string_offset` of string_locator.rs).
-- Assumes nothing.
use Rattle.std.specs.Prelude.{ℕ, ◌≤◌, ◌<◌, ◌≡◌, cond, ◌||◌, List, length, ltb}
use Rattle.refusal.specs.Refusals.{is_too_large}
use Rattle.string_search.specs.declared.Owner.TheVariants.{Entry}
use Rattle.string_search.specs.Finds.{Find}
use Rattle.string_search.specs.Keys.{good_keys}
use Rattle.string_search.specs.Owner.{owner}

-- string x owns a find of q from `from` on, before e. The find may begin in the string's length bytes
pub record OwnsFrom (s ks q : List ℕ) (e from x : ℕ) : Type 0 where
  pub at : ℕ
  pub find : Find s q e from at
  pub owns : owner ks at ≡ Entry x

-- what is searched: a file from `from` up to `to`, and the lent keys of its strings
pub record Area : Type 0 where
  pub file : List ℕ
  pub keys : List ℕ
  pub from : ℕ
  pub to : ℕ

abbrev pub area : List ℕ → List ℕ → ℕ → ℕ → Area
area s ks a e = record { file = s; keys = ks; from = a; to = e }

-- string x owns a find of q in the area. An area backward or past the file's end has no find, and nothing finds the empty query
pub record Owns (w : Area) (q : List ℕ) (x : ℕ) : Type 0 where
  pub asked : 0 < length q
  pub forward : w.from ≤ w.to
  pub inside : w.to ≤ length w.file
  pub owned : OwnsFrom w.file w.keys q w.to w.from x

-- the first fault of a search in a file of len bytes, for a query of n bytes; 0 where there is none
unfoldable pub search_fault : ℕ → ℕ → ℕ → List ℕ → ℕ
search_fault len shortest n ks =
    cond (is_too_large len) 1 (cond (ltb n shortest || ltb 255 n) 9 (cond (good_keys ks) 0 15))
