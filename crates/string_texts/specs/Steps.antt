-- What the inner steps are asked, and what they yield.
-- Assumes nothing.
use Rattle.refusal.specs.declared.Refusal.{Refusal}
use Rattle.std.specs.Prelude.{ℕ, zero, suc, ◌-◌, ◌≤◌, ◌<◌, min, max, ◌≡◌, ◌≢◌, List, ◌++◌, length, set, take, drop, Result, Ok, Err}
use Rattle.words.specs.Padded.{zeros, padded}
use Rattle.dalvik.specs.Numbers.{byte}
use Rattle.dalvik.specs.Ids.{item, string_id_size}
use Rattle.refusal.specs.Refusals.{refusal_number, largest_file}
use Rattle.refusal.specs.declared.Refusal.TheVariants.{LentTooShort}
use Rattle.byte_search.specs.First.{Either, First}
use Rattle.string_data.specs.Text.{Found}
use Rattle.sort_keys.specs.Sorted.{sorted}
use Rattle.string_texts.specs.Texts.{text_of, fault_from, text_key, text_keys_of}

-- r bytes up to and with the last zero, 0 where there is none
pub record LastZero (s : List ℕ) (r : ℕ) : Type 0 where
  pub inside : r ≤ length s
  pub here : 0 < r → byte s (r - 1) ≡ 0
  pub none_after : (k : ℕ) → r ≤ k → k < length s → byte s k ≢ 0

-- a file that is read, with its last zero
pub record Readable (s : List ℕ) (zeros : ℕ) : Type 0 where
  pub small : length s ≤ largest_file
  pub last : LastZero s zeros

-- the ids of n strings are inside the file
pub record Ids (s : List ℕ) (table n : ℕ) : Type 0 where
  pub inside : item table string_id_size n ≤ length s

-- the number and the place of a start
abbrev pub start_number : Result ℕ Refusal → ℕ
start_number (Ok a) = 0
start_number (Err r) = refusal_number r

abbrev pub start_place : Result ℕ Refusal → ℕ
start_place (Ok a) = a
start_place (Err r) = 0

-- r says where the text f begins, or its fault
pub record Begins (f : Found) (r : Result ℕ Refusal) : Type 0 where
  pub number : start_number r ≡ f.number
  pub place : start_place r ≡ f.start

-- string i has its key, or a fault
pub record Put (s : List ℕ) (table i : ℕ) (r : Result ℕ Refusal) (before after : List ℕ) : Type 0 where
  pub begins : Begins (text_of s table i) r
  pub long : length after ≡ length before
  pub words : start_number r ≡ 0 → after ≡ set before i (text_key s table i)

-- the greatest place where one of n texts begins
unfoldable pub greatest_start : List ℕ → ℕ → ℕ → ℕ
greatest_start s table zero = 0
greatest_start s table (suc n) = max (greatest_start s table n) (text_of s table n).start

-- n strings have their keys, or one has a fault
pub record PutAll (s : List ℕ) (table n : ℕ) (r : Result ℕ Refusal) (before after : List ℕ) : Type 0 where
  pub number : start_number r ≡ fault_from s table n 0
  pub last : start_number r ≡ 0 → start_place r ≡ greatest_start s table n
  pub long : length after ≡ length before
  pub words : start_number r ≡ 0 → n ≤ length before → before ≡ zeros (length before) → after ≡ padded (length before) (text_keys_of s table n)

-- n keys are sorted, or there are fewer words
pub data Finished (s : List ℕ) (last n : ℕ) (r : Result ℕ Refusal) (before after : List ℕ) : Type 0 where
  short : length before < n → r ≡ Err LentTooShort → after ≡ zeros (length before) → Finished s last n r before after
  whole : (e : ℕ) → n ≤ length before → r ≡ Ok e → First (Either 0 0 s) last (min (length s) (length s)) e
      → after ≡ sorted (take n before) ++ drop n before → Finished s last n r before after
