-- What the inner steps of the build ask for and leave: the triples of the codes in lent words, and the slots and shares while codes are
-- placed. The codes themselves are nowhere in the lent words, so a step asks that there are some, and says what it leaves for any.
-- The definitions that the public contract cites are in Slots, Build and Answer.
-- Assumes nothing.
use Rattle.std.specs.Prelude.{ℕ, ◌-◌, ◌*◌, ◌≤◌, ◌<◌, min, ◌≡◌, List, ◌⊎◌, length, get_or, Option, Some, None, Result}
use Rattle.refusal.specs.declared.Refusal.{Refusal}
use Rattle.words.specs.Padded.{zeros, padded}
use Rattle.dalvik.specs.CodeItem.{Code}
use Rattle.class_data.specs.Walk.{most_methods}
use Rattle.class_data.specs.Walk.Walk.{found}
use Rattle.class_data.specs.Stored.{first_bucket, last_bucket, triples_of, starts_of}
use Rattle.code_table.specs.Slots.{base_of, top_of, Table, place, table_of}
use Rattle.code_table.specs.Build.{most_shares, built_from}
use Rattle.code_table.specs.Answer.{TableWords, room_of, GivesBuild}
use Rattle.code_table.specs.declared.Built.{Built}
use Rattle.code_table.specs.declared.Tabled.{Tabled}
use Rattle.code_table.specs.declared.Triple.{Triple}

-- stands where a list of codes has none
abbrev pub no_code : Code
no_code = record { method = 0; off = 0; units = 0 }

-- how many buckets of 16 bytes a file within the limit has
abbrev pub most_buckets : ℕ
most_buckets = 1048576

-- a code that the walk lets pass: its array is not empty and lies in a file of 16 MiB
pub record Sound (c : Code) : Type 0 where
  pub rises : first_bucket c ≤ last_bucket c
  pub inside : last_bucket c < most_buckets
  pub small : c.method < most_methods

-- the words ts are the triples of the n codes cs, and zeros
pub record Triples (ts : List ℕ) (n : ℕ) (cs : List Code) : Type 0 where
  pub words : ts ≡ padded (length ts) (triples_of cs)
  pub there : 3 * n ≤ length ts
  pub count : length cs ≡ n
  pub sound : (i : ℕ) → i < n → Sound (get_or cs i no_code)

-- they are the triples of some n codes
pub record Coded (ts : List ℕ) (n : ℕ) : Type 0 where
  pub codes : List Code
  pub triples : Triples ts n codes

-- of n lent words of shares this many can be used
abbrev pub room : ℕ → ℕ
room n = min n most_shares

-- the words of a triple are those of a code
pub record Words (c : Code) (x : Triple) : Type 0 where
  pub first : x.first ≡ first_bucket c
  pub last : x.last ≡ last_bucket c
  pub method : x.method ≡ c.method

-- lent words of slots and of shares
pub record SlotWords : Type 0 where
  pub slots : List ℕ
  pub shares : List ℕ

abbrev pub slot_words : List ℕ → List ℕ → SlotWords
slot_words slots shares = record { slots = slots; shares = shares }

-- N lent words of slots and W of shares hold a table, with zeros after it; k words of shares are in use
pub record Holds (N W : ℕ) (t : Table) (w : SlotWords) (k : ℕ) : Type 0 where
  pub slots : w.slots ≡ padded N t.slots
  pub shares : w.shares ≡ padded W t.shares
  pub used : k ≡ length t.shares
  pub fits : k ≤ room W

-- the table is held, or has more shares than the lent words can
abbrev pub After : ℕ → ℕ → Table → Option ℕ → SlotWords → Type 0
After N W t (Some used) w = Holds N W t w used
After N W t None w = room W < length t.shares

-- what placing asks for
pub record Placeable (w : SlotWords) (used base : ℕ) (x : Triple) : Type 0 where
  pub above : base ≤ x.first
  pub rises : x.first ≤ x.last
  pub inside : x.last - base < length w.slots
  pub small : x.method < most_methods
  pub fits : used ≤ length w.shares

-- what placing leaves of any table that the lent words held, and that has the code's slots
abbrev pub PlacedIn : ℕ → Triple → ℕ → Option ℕ → SlotWords → SlotWords → Type 0
PlacedIn base x used r before after =
    (N W : ℕ) (c : Code) (t : Table) → length before.shares ≡ W → Words c x → x.last - base < length t.slots
    → Holds N W t before used → After N W (place base c t) r after

-- what the table of all codes asks for: triples, and slots and shares that are cleared
pub record Cleared (ts : List ℕ) (n : ℕ) (w : SlotWords) : Type 0 where
  pub coded : Coded ts n
  pub slots : w.slots ≡ zeros (length w.slots)
  pub shares : w.shares ≡ zeros (length w.shares)

-- what placing all codes asks for besides: the least bucket, and slots from there to the greatest
pub record Spanned (ts : List ℕ) (n base : ℕ) (w : SlotWords) : Type 0 where
  pub cleared : Cleared ts n w
  pub least : base ≡ base_of cleared.coded.codes
  pub enough : top_of cleared.coded.codes - base ≤ length w.slots

-- what placing all codes leaves
abbrev pub AllPlaced : List ℕ → ℕ → ℕ → Option ℕ → SlotWords → SlotWords → Type 0
AllPlaced ts n base r before after =
    (cs : List Code) → Triples ts n cs → base ≡ base_of cs → top_of cs - base ≤ length before.slots
    → After (length before.slots) (length before.shares) (table_of cs) r after

-- the lent words hold the table of all codes, whose least bucket and one more than whose greatest t has
pub record HoldsAll (cs : List Code) (t : Tabled) (before after : SlotWords) : Type 0 where
  pub base : t.base ≡ base_of cs
  pub top : t.top ≡ top_of cs
  pub enough : top_of cs - base_of cs ≤ length before.slots
  pub held : Holds (length before.slots) (length before.shares) (table_of cs) after t.used

-- that, or too few words of slots or of shares were lent
abbrev pub TabledAs : List Code → Option Tabled → SlotWords → SlotWords → Type 0
TabledAs cs (Some t) before after = HoldsAll cs t before after
TabledAs cs None before after =
    (length before.slots < top_of cs - base_of cs) ⊎ (room (length before.shares) < length (table_of cs).shares)

-- what the build leaves of codes found in a file of len bytes, with the start words of m methods
abbrev pub Finished : ℕ → ℕ → Result Built Refusal → TableWords → TableWords → Type 0
Finished len n r before after =
    (m e : ℕ) (cs : List Code) → Triples before.triples n cs → before.starts ≡ padded (length before.starts) (starts_of m cs)
    → GivesBuild (built_from len m (room_of before) (found cs e)) r before after
