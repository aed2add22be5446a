-- The string map (SPEC, String map; `_build_map` of string_locator.rs): a key for each string, sorted, and
-- the text area. Faults in order: 1; no string succeeds; 3; 4; 5.
-- Assumes nothing.
use Rattle.std.specs.Prelude.{ℕ, zero, suc, ◌+◌, ◌*◌, ◌^◌, min, max, ◌≡◌, List, [], ◌∷◌, ◌++◌, cond, length, ltb, leb, eqb, Result, Ok, Err}
use Rattle.words.specs.Padded.{padded}
use Rattle.dalvik.specs.Ids.{item, string_id_size, string_data_off}
use Rattle.refusal.specs.declared.Refusal.{Refusal}
use Rattle.refusal.specs.Refusals.{refusal_number, is_too_large}
use Rattle.string_data.specs.Text.{first_zero, on_zero}
use Rattle.sort_keys.specs.Sorted.{sorted}
use Rattle.string_locator.specs.LengthBytes.{length_bytes, on_length}
use Rattle.string_locator.specs.declared.StringMap.{StringMap}

-- ---- the keys: data offset and index of each string
abbrev pub key_of : List ℕ → ℕ → ℕ → ℕ
key_of s table i = string_data_off s table i * 2 ^ 32 + i

-- of the first n strings, in the order of their indices
unfoldable pub keys_of : List ℕ → ℕ → ℕ → List ℕ
keys_of s table zero = []
keys_of s table (suc n) = keys_of s table n ++ (key_of s table n ∷ [])

-- ---- the area: the least and the greatest data offset of the first n strings, of which there is one
unfoldable pub least : List ℕ → ℕ → ℕ → ℕ
least s table zero = string_data_off s table 0
least s table (suc n) = min (least s table n) (string_data_off s table n)

unfoldable pub greatest : List ℕ → ℕ → ℕ → ℕ
greatest s table zero = string_data_off s table 0
greatest s table (suc n) = max (greatest s table n) (string_data_off s table n)

-- the refusal's number, 0 for success; the text area, from start up to end; how many keys
pub record MapOutcome : Type 0 where
  pub number : ℕ
  pub start : ℕ
  pub end : ℕ
  pub count : ℕ

abbrev pub none : ℕ → MapOutcome
none r = record { number = r; start = 0; end = 0; count = 0 }

abbrev pub area : ℕ → ℕ → ℕ → MapOutcome
area a e n = record { number = 0; start = a; end = e; count = n }

-- the number and the values of each answer
abbrev pub says : Result StringMap Refusal → MapOutcome
says (Ok m) = area m.start m.end m.count
says (Err r) = none (refusal_number r)

-- from lo to the first zero after the length bytes at hi, that zero included; 5: there is none
unfoldable pub text_area : List ℕ → ℕ → ℕ → ℕ → MapOutcome
text_area s lo hi n = on_length (length_bytes s hi) (none 5) (λ (k : ℕ). on_zero (first_zero s (hi + k)) (none 5) (λ (z : ℕ). area lo (hi + k + z + 1) n))

-- of n strings, n above 0, whose ids are inside the file; 5: a data offset is at or past the end
unfoldable pub strings_area : List ℕ → ℕ → ℕ → MapOutcome
strings_area s table n =
    cond (leb (length s) (greatest s table n)) (none 5) (text_area s (least s table n) (greatest s table n) n)

-- the map of n strings whose ids begin at `table`, with `lent` words for the keys
unfoldable pub map_outcome : List ℕ → ℕ → ℕ → ℕ → MapOutcome
map_outcome s table n lent =
    cond (is_too_large (length s)) (none 1)
    (cond (eqb n 0) (area 0 0 0)
    (cond (ltb (length s) (item table string_id_size n)) (none 3) (cond (ltb lent n) (none 4) (strings_area s table n))))

-- the answer, and in the lent words the sorted keys with zeros after them: a refusal has no key
pub record Built (s : List ℕ) (table n : ℕ) (r : Result StringMap Refusal) (before after : List ℕ) : Type 0 where
  pub answer : says r ≡ map_outcome s table n (length before)
  pub keys : after ≡ padded (length before) (sorted (keys_of s table (map_outcome s table n (length before)).count))
