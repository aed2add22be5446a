-- What the inner steps of method search are asked, and what they yield.
-- Assumes nothing.
use Rattle.refusal.specs.declared.Refusal.{Refusal}
use Rattle.std.specs.Prelude.{ℕ, ◌≤◌, ◌<◌, ◌≡◌, Bool, true, cond, ◌||◌, List, length, take, ltb, Option, Some, Result}
use Rattle.words.specs.Padded.{zeros}
use Rattle.words.specs.Rising.{Rising}
use Rattle.dalvik.specs.Ids.{method_class_idx, method_name_idx}
use Rattle.groups.specs.Built.{group_words}
use Rattle.word_set.specs.Sets.{In, Inserts}
use Rattle.word_set.specs.Found.{Found}
use Rattle.string_search.specs.Search.{area}
use Rattle.method_search.specs.declared.Lent.{Lent}
use Rattle.method_search.specs.declared.Sought.{Sought}
use Rattle.method_search.specs.declared.Wanted.{Wanted}
use Rattle.method_search.specs.Methods.{query, Asked, search_for, asked_fault, SearchWords, search_words}

-- the search that is asked for
abbrev pub asked_of : Sought → Asked
asked_of s =
    search_for (area s.file.now s.keys.now s.start s.end) (query s.class.now s.name.now) (group_words s.str_offsets.now s.type_idxs.now)
    s.methods

-- the words behind what is lent
abbrev pub lent_words : Lent → SearchWords
lent_words l = search_words l.strings.now l.types.now l.out.now

-- each field holds the slice that it held before
pub record SameLent (before after : Lent) : Type 0 where
  pub strings : after.strings.ghost_name ≡ before.strings.ghost_name
  pub types : after.types.ghost_name ≡ before.types.ghost_name
  pub out : after.out.ghost_name ≡ before.out.ghost_name

-- nothing speaks against the search, and the lent words of the result are zero
pub record Begun (k : Asked) (out : List ℕ) : Type 0 where
  pub none : 0 ≡ asked_fault k
  pub clear : out ≡ zeros (length out)

-- an index is among those found, if something is asked
abbrev pub Among : Bool → List ℕ → ℕ → Type 0
Among asked found x = asked ≡ true → In x found

-- the method ids, and what their class_idx and name_idx are to be among
pub record Sieve : Type 0 where
  pub file : List ℕ
  pub off : ℕ
  pub by_class : Bool
  pub types : List ℕ
  pub by_name : Bool
  pub names : List ℕ

abbrev pub sieve : List ℕ → ℕ → Bool → List ℕ → Bool → List ℕ → Sieve
sieve s off c ts n ns = record { file = s; off = off; by_class = c; types = ts; by_name = n; names = ns }

abbrev pub sieve_of : Wanted → Sieve
sieve_of w = sieve w.file.now w.off w.by_class w.types.now w.by_name w.names.now

-- by the class and the name of a search, each if it is given
abbrev pub sieve_for : Asked → List ℕ → List ℕ → Sieve
sieve_for k types names = sieve k.area.file k.methods.off (ltb 0 (length k.query.class)) types (ltb 0 (length k.query.name)) names

pub record Fits (v : Sieve) (i : ℕ) : Type 0 where
  pub class : Among v.by_class v.types (method_class_idx v.file v.off i)
  pub name : Among v.by_name v.names (method_name_idx v.file v.off i)

pub record Fitting (v : Sieve) (count x : ℕ) : Type 0 where
  pub below : x < count
  pub fits : Fits v x

-- how many methods are looked at
abbrev pub asked_count : ℕ → Bool → Bool → ℕ
asked_count size by_class by_name = cond (by_class || by_name) size 0

pub record Risen (types names : List ℕ) : Type 0 where
  pub types_rise : Rising types
  pub names_rise : Rising names

-- one number: it is inserted if P holds
pub data Stepped (P : Type 0) (i n : ℕ) (before after : List ℕ) (r : Option ℕ) : Type 0 where
  joined : P → Inserts i n before after r → Stepped P i n before after r
  passed : (P → ⊥) → after ≡ before → r ≡ Some n → Stepped P i n before after r

-- t types and n strings found stand at the front of their words
pub record Chosen (t n : ℕ) (before : SearchWords) : Type 0 where
  pub types_fit : t ≤ length before.types
  pub names_fit : n ≤ length before.strings
  pub risen : Risen (take t before.types) (take n before.strings)
  pub clear : before.methods ≡ zeros (length before.methods)

-- of a table of `size` methods
pub record Selected (v : Sieve) (size : ℕ) (r : Result ℕ Refusal) (before after : SearchWords) : Type 0 where
  pub found : Found (Fitting v (asked_count size v.by_class v.by_name)) 0 r before.methods after.methods
  pub types_cleared : after.types ≡ zeros (length before.types)
  pub names_cleared : after.strings ≡ zeros (length before.strings)
