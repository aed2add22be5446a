-- The texts of a file's strings: a key for each string, of the place where its text begins and its index, sorted. Faults in
-- order: 1; 3; those of the strings, in the order of their indices; 4.
-- Assumes nothing.
use Rattle.refusal.specs.declared.Refusal.{Refusal}
use Rattle.std.specs.Prelude.{ℕ, zero, suc, ◌+◌, ◌*◌, ◌^◌, ◌≤◌, ◌<◌, ◌≡◌, cond, ◌&&◌, List, [], ◌∷◌, ◌++◌, length, ltb, eqb, Result, Ok, Err}
use Rattle.words.specs.Padded.{padded}
use Rattle.dalvik.specs.Ids.{item, string_id_size, string_data_off}
use Rattle.refusal.specs.Refusals.{refusal_number, is_too_large}
use Rattle.tinydex.specs.declared.Table.{Table}
use Rattle.string_data.specs.Text.{Found, string_text}
use Rattle.sort_keys.specs.Sorted.{sorted}

-- the first of two faults, by their numbers; 0 is none
abbrev pub or_fault : ℕ → ℕ → ℕ
or_fault a b = cond (eqb a 0) b a

-- the text of string i, by the string ids at `table`
abbrev pub text_of : List ℕ → ℕ → ℕ → Found
text_of s table i = string_text s (string_data_off s table i)

-- the first fault of the n strings from i on, by their indices: 6, 10 or 5, and 0 where there is none
unfoldable pub fault_from : List ℕ → ℕ → ℕ → ℕ → ℕ
fault_from s table zero i = 0
fault_from s table (suc n) i = or_fault (text_of s table i).number (fault_from s table n (i + 1))

-- the keys of the first n strings, in the order of their indices
abbrev pub text_key : List ℕ → ℕ → ℕ → ℕ
text_key s table i = (text_of s table i).start * 2 ^ 32 + i

unfoldable pub text_keys_of : List ℕ → ℕ → ℕ → List ℕ
text_keys_of s table zero = []
text_keys_of s table (suc n) = text_keys_of s table n ++ (text_key s table n ∷ [])

-- 3: a nonempty table of string ids passes the end
abbrev pub table_fault : List ℕ → Table → ℕ
table_fault s strings = cond (ltb 0 strings.size && ltb (length s) (item strings.off string_id_size strings.size)) 3 0

-- the refusal's number, 0 for success, with `lent` words for the keys
unfoldable pub texts_fault : List ℕ → Table → ℕ → ℕ
texts_fault s strings lent =
    cond (is_too_large (length s)) 1
    (or_fault (table_fault s strings)
    (or_fault (fault_from s strings.off strings.size 0) (cond (ltb lent strings.size) 4 0)))

-- the number of an answer, and the place after the texts, 0 for a refusal
abbrev pub texts_number : Result ℕ Refusal → ℕ
texts_number (Ok e) = 0
texts_number (Err r) = refusal_number r

abbrev pub texts_end : Result ℕ Refusal → ℕ
texts_end (Ok e) = e
texts_end (Err r) = 0

-- none of the texts of n strings reaches past e, a place in the file. Which place is left to the program
pub record Covers (s : List ℕ) (table n e : ℕ) : Type 0 where
  pub inside : e ≤ length s
  pub covers : (i : ℕ) → i < n → (text_of s table i).start + (text_of s table i).len ≤ e

-- the answer, and in the lent words the sorted keys with zeros after them: a refusal has none
pub record GivesTexts (s : List ℕ) (strings : Table) (r : Result ℕ Refusal) (before after : List ℕ) : Type 0 where
  pub number : texts_number r ≡ texts_fault s strings (length before)
  pub covers : texts_number r ≡ 0 → Covers s strings.off strings.size (texts_end r)
  pub keys :
      after
      ≡ padded (length before) (cond (eqb (texts_fault s strings (length before)) 0) (sorted (text_keys_of s strings.off strings.size)) [])
