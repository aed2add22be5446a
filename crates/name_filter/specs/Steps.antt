-- What the inner steps of the name filter are asked, and what they yield.
-- Assumes nothing.
use Rattle.std.specs.Prelude.{ℕ, ◌+◌, ◌*◌, ◌≤◌, ◌<◌, ◌≡◌, Bool, true, false, ◌&&◌, ◌||◌, ◌⊎◌, List, length, get_or, ltb, eqb, Result, Ok, Err}
use Rattle.words.specs.Padded.{zeros}
use Rattle.dalvik.specs.Ids.{string_data_off}
use Rattle.refusal.specs.declared.Refusal.{Refusal}
use Rattle.refusal.specs.declared.Refusal.TheVariants.{LentTooShort}
use Rattle.refusal.specs.Refusals.{refusal_number}
use Rattle.string_data.specs.Text.{Found, string_text, stretch_of}
use Rattle.word_set.specs.Sets.{In, SetOf}
use Rattle.word_set.specs.Found.{fault_number}
use Rattle.word_set.specs.Steps.{Decides, Whole}
use Rattle.index_set.specs.Bits.{is_held}
use Rattle.name_filter.specs.HasName.{HasName}
use Rattle.name_filter.specs.declared.Asked.{Asked}
use Rattle.name_filter.specs.Faults.{text_fault, first_fault}
use Rattle.name_filter.specs.Names.{name_text, Named}

-- r is the text's fault, or whether it has the name
pub record Judged (s q : List ℕ) (f : Found) (r : Result Bool Refusal) : Type 0 where
  pub known : (b : Bool) → r ≡ Ok b → (0 ≡ text_fault s (ltb 0 (length q)) f) × Decides (HasName (stretch_of s f) q) b
  pub refused : (why : Refusal) → r ≡ Err why → refusal_number why ≡ text_fault s (ltb 0 (length q)) f

-- the strings of a file, by the string ids at `table`, and what is asked of them
pub record Names : Type 0 where
  pub file : List ℕ
  pub table : ℕ
  pub query : List ℕ

abbrev pub names : List ℕ → ℕ → List ℕ → Names
names s table q = record { file = s; table = table; query = q }

abbrev pub names_of : Asked → Names
names_of a = names a.file.now a.table a.query.now

-- the fault of a string's text
abbrev pub fault_of : Names → ℕ → ℕ
fault_of k x = text_fault k.file (ltb 0 (length k.query)) (string_text k.file (string_data_off k.file k.table x))

abbrev pub HasNameAt : Names → ℕ → Type 0
HasNameAt k x = HasName (name_text k.file k.table x) k.query

-- x joins the strings seen, and if b those that have the name
pub record Noted (x : ℕ) (b : Bool) (seen has seen' has' : List ℕ) : Type 0 where
  pub seen_at : (y : ℕ) → is_held seen' y ≡ (is_held seen y || eqb y x)
  pub has_at : (y : ℕ) → is_held has' y ≡ (is_held has y || (b && eqb y x))

-- what is known of the strings seen is true, and of others nothing is
pub record Marks (k : Names) (seen has : List ℕ) : Type 0 where
  pub good : (x : ℕ) → is_held seen x ≡ true → 0 ≡ fault_of k x
  pub says : (x : ℕ) → is_held seen x ≡ true → Decides (HasNameAt k x) (is_held has x)
  pub among : (x : ℕ) → is_held has x ≡ true → is_held seen x ≡ true

-- both sets have a bit for each index below n
pub record Room (n : ℕ) (seen has : List ℕ) : Type 0 where
  pub for_seen : n ≤ 64 * length seen
  pub for_has : n ≤ 64 * length has

pub record Looking (k : Names) (x : ℕ) (seen has : List ℕ) : Type 0 where
  pub room : Room (x + 1) seen has
  pub marks : Marks k seen has

-- string x was looked at: r is its fault, and without one it is seen
pub record Looked (k : Names) (x : ℕ) (seen seen' has' : List ℕ) (r : Result (Unit {0}) Refusal) : Type 0 where
  pub fault : fault_number r ≡ fault_of k x
  pub marks : Marks k seen' has'
  pub now_seen : fault_number r ≡ 0 → is_held seen' x ≡ true
  pub kept : (y : ℕ) → is_held seen y ≡ true → is_held seen' y ≡ true
  pub only : (y : ℕ) → is_held seen' y ≡ true → (is_held seen y ≡ true) ⊎ (y ≡ x)

-- the sets are empty, with a bit for each string
pub record Unmarked (count : ℕ) (seen has : List ℕ) : Type 0 where
  pub room : Room count seen has
  pub none_seen : (x : ℕ) → is_held seen x ≡ false
  pub none_has : (x : ℕ) → is_held has x ≡ false

-- the first i given indices are seen, and only given ones
pub record Seen (given seen : List ℕ) (i : ℕ) : Type 0 where
  pub all : (k : ℕ) → k < i → is_held seen (get_or given k 0) ≡ true
  pub only : (x : ℕ) → is_held seen x ≡ true → In x given

pub record AllLooked (k : Names) (count : ℕ) (given seen has : List ℕ) (r : Result (Unit {0}) Refusal) : Type 0 where
  pub fault : fault_number r ≡ first_fault k.file count k.table (ltb 0 (length k.query)) given
  pub marks : Marks k seen has
  pub seen_all : fault_number r ≡ 0 → Seen given seen (length given)

pub record Begun (count : ℕ) (seen has out : List ℕ) : Type 0 where
  pub unmarked : Unmarked count seen has
  pub small : length has ≤ 67108864
  pub clear : out ≡ zeros (length out)

-- how many strings the largest sets have a bit for
abbrev pub most : ℕ
most = 4194304

-- at most n strings
pub record Counted (n count : ℕ) (out : List ℕ) : Type 0 where
  pub within : count ≤ n
  pub clear : out ≡ zeros (length out)

-- the set, more than the words lent, or the first fault
pub data Sifted (P : ℕ → Type 0) (number : ℕ) (before after : List ℕ) (r : Result ℕ Refusal) : Type 0 where
  done : (n : ℕ) → r ≡ Ok n → 0 ≡ number → Whole P n before after → Sifted P number before after r
  short : r ≡ Err LentTooShort → 0 ≡ number → ((l : List ℕ) → SetOf P l → length before < length l) → Sifted P number before after r
  stopped : (why : Refusal) → r ≡ Err why → refusal_number why ≡ number → Sifted P number before after r

-- .. of the given indices
abbrev pub SiftedOf : Names → ℕ → List ℕ → List ℕ → List ℕ → Result ℕ Refusal → Type 0
SiftedOf k count given before after r =
    Sifted (Named k.file k.table k.query given) (first_fault k.file count k.table (ltb 0 (length k.query)) given) before after r

pub record Refuses (why : Refusal) (before after : List ℕ) (r : Result ℕ Refusal) : Type 0 where
  pub answer_is : r ≡ Err why
  pub cleared : after ≡ zeros (length before)
