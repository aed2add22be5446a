-- What the inner steps of string search are asked, and what they yield.
-- Assumes nothing.
use Rattle.std.specs.Prelude.{ℕ, ◌≤◌, ◌<◌, ◌≡◌, List, length, Option, Some, None}
use Rattle.words.specs.Padded.{zeros}
use Rattle.words.specs.Rising.{Rising}
use Rattle.refusal.specs.Refusals.{largest_file}
use Rattle.index_set.specs.Marked.{SetWords, Added}
use Rattle.byte_search.specs.Occurs.{Occurs}
use Rattle.string_search.specs.Finds.{First}
use Rattle.string_search.specs.Search.{OwnsFrom}
use Rattle.string_search.specs.declared.Asked.{Asked}
use Rattle.string_search.specs.declared.Owner.{Owner}
use Rattle.string_search.specs.declared.Owner.TheVariants.{Entry, Absent}

pub record Searched (s q : List ℕ) (e from : ℕ) : Type 0 where
  pub inside : e ≤ length s
  pub small : length s ≤ largest_file
  pub short : length q ≤ 255
  pub forward : from ≤ e

pub record Ready (s ks q : List ℕ) (e from : ℕ) (out : List ℕ) : Type 0 where
  pub area : Searched s q e from
  pub asked : 0 < length q
  pub rising : Rising ks
  pub clear : out ≡ zeros (length out)

-- .. for what is asked, and its owners
abbrev pub ReadyFor : Asked → List ℕ → Type 0
ReadyFor a out = Ready a.file.now a.keys.now a.query.now a.end a.start out

abbrev pub OwnsAsked : Asked → ℕ → Type 0
OwnsAsked a = OwnsFrom a.file.now a.keys.now a.query.now a.end a.start

-- one find: an owner joins the set
pub data Stepped (o : Owner) (n : ℕ) (before after : SetWords) (r : Option ℕ) : Type 0 where
  joined : (i : ℕ) → o ≡ Entry i → Added i n before after r → Stepped o n before after r
  passed : o ≡ Absent → after ≡ before → r ≡ Some n → Stepped o n before after r

-- what looking for the next find answers
pub data NextFind (s q : List ℕ) (e from : ℕ) (r : Option ℕ) : Type 0 where
  at_place : (p : ℕ) → r ≡ Some p → First s q e from p → NextFind s q e from r
  no_more : r ≡ None → ((k : ℕ) → from ≤ k → Occurs s q e k → ⊥) → NextFind s q e from r
