-- What method search finds: SPEC, Searches (`locate` of method_locator.rs for substring queries).
-- Assumes nothing.
use Rattle.refusal.specs.declared.Refusal.{Refusal}
use Rattle.std.specs.Prelude.{ℕ, ◌+◌, ◌<◌, max, ◌≡◌, Bool, cond, ◌&&◌, List, length, eqb, ltb, Result}
use Rattle.words.specs.Padded.{zeros}
use Rattle.dalvik.specs.Ids.{method_id_size, method_class_idx, method_name_idx}
use Rattle.tinydex.specs.declared.Table.{Table}
use Rattle.groups.specs.Built.{GroupWords, passes}
use Rattle.word_set.specs.Sets.{SetOf}
use Rattle.word_set.specs.Found.{Found}
use Rattle.string_search.specs.Search.{Area, Owns, search_fault}
use Rattle.type_search.specs.Types.{TypeFound, or_short}

-- what is asked for: a class and a name, of which an empty one is absent
pub record Query : Type 0 where
  pub class : List ℕ
  pub name : List ℕ

abbrev pub query : List ℕ → List ℕ → Query
query c n = record { class = c; name = n }

-- a search: where the strings are, what is asked for, the types by their strings, and the method ids
pub record Asked : Type 0 where
  pub area : Area
  pub query : Query
  pub types : GroupWords
  pub methods : Table

abbrev pub search_for : Area → Query → GroupWords → Table → Asked
search_for w q ts ms = record { area = w; query = q; types = ts; methods = ms }

-- method x fits: a class or a name is given, and each that is given is found
pub record MethodFound (k : Asked) (x : ℕ) : Type 0 where
  pub below : x < k.methods.size
  pub given : 0 < length k.query.class + length k.query.name
  pub of_class : 0 < length k.query.class
      → TypeFound k.area k.query.class k.types (method_class_idx k.area.file k.methods.off x)
  pub of_name : 0 < length k.query.name → Owns k.area k.query.name (method_name_idx k.area.file k.methods.off x)

-- the first fault but for the lent words, of a class of c and a name of n bytes: those of a search for the longer of the two, and then
-- the method table's
unfoldable pub method_fault : ℕ → Table → ℕ → ℕ → List ℕ → ℕ
method_fault len methods c n ks =
    cond (eqb (search_fault len 0 (max c n) ks) 0) (cond (passes len methods method_id_size) 3 0) (search_fault len 0 (max c n) ks)

abbrev pub asked_fault : Asked → ℕ
asked_fault k = method_fault (length k.area.file) k.methods (length k.query.class) (length k.query.name) k.area.keys

-- the lent words: for the strings found and the types found, to work in, and for the methods
pub record SearchWords : Type 0 where
  pub strings : List ℕ
  pub types : List ℕ
  pub methods : List ℕ

abbrev pub search_words : List ℕ → List ℕ → List ℕ → SearchWords
search_words ss ts ms = record { strings = ss; types = ts; methods = ms }

-- what they are to hold on the way: the strings of the class, its types, and the strings of the name
pub record Lists : Type 0 where
  pub of_class : List ℕ
  pub of_types : List ℕ
  pub of_name : List ℕ

-- a class is given, of `class` bytes, and its strings name no type, so that no method fits, whatever the name is
abbrev pub settles : ℕ → ℕ → Bool
settles class types = ltb 0 class && eqb types 0

-- the fault, with 4 for the words lent to work in, class being its length: too few for the strings of the class, or for its types; and,
-- unless the class settles the result, too few for the strings of the name
unfoldable pub lent_fault : ℕ → ℕ → SearchWords → Lists → ℕ
lent_fault fault class before l =
    let by-types = or_short (or_short fault (length before.strings) l.of_class) (length before.types) l.of_types in
    cond (settles class (length l.of_types)) by-types (or_short by-types (length before.strings) l.of_name)

-- the answer and the methods; 4 also for the words lent to work in, which are zero afterwards
pub record Searched (k : Asked) (r : Result ℕ Refusal) (before after : SearchWords) : Type 0 where
  pub lists : Lists
  pub class_owners : SetOf (Owns k.area k.query.class) lists.of_class
  pub class_types : SetOf (TypeFound k.area k.query.class k.types) lists.of_types
  pub name_owners : SetOf (Owns k.area k.query.name) lists.of_name
  pub found : Found (MethodFound k) (lent_fault (asked_fault k) (length k.query.class) before lists) r before.methods after.methods
  pub strings_cleared : after.strings ≡ zeros (length before.strings)
  pub types_cleared : after.types ≡ zeros (length before.types)
