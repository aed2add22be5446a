-- What speaks against a call of the name filter: SPEC, Name filter (`locate_name_indices` of string_locator.rs).
-- Assumes nothing.
use Rattle.std.specs.Prelude.{ℕ, Bool, cond, not, ◌&&◌, ◌||◌, List, [], ◌∷◌, length, ltb, eqb}
use Rattle.dalvik.specs.Numbers.{le32}
use Rattle.dalvik.specs.Ids.{item, string_id_size, string_data_off}
use Rattle.refusal.specs.Refusals.{is_too_large}
use Rattle.string_data.specs.Text.{Found, string_text, stretch_of}
use Rattle.name_filter.specs.HasName.{is_ascii}

-- of a string's bytes: 6, 10 or 5; 11: a text that is not ASCII where something is asked for
unfoldable pub text_fault : List ℕ → Bool → Found → ℕ
text_fault s asked f = cond (eqb f.number 0) (cond (asked && not (is_ascii (stretch_of s f))) 11 0) f.number

-- of a given index: 13 where it is not below the count
abbrev pub name_fault : List ℕ → ℕ → ℕ → Bool → ℕ → ℕ
name_fault s count table asked i = cond (ltb i count) (text_fault s asked (string_text s (string_data_off s table i))) 13

abbrev pub or_fault : ℕ → ℕ → ℕ
or_fault a b = cond (eqb a 0) b a

-- the first of the given indices' faults, in their order
unfoldable pub first_fault : List ℕ → ℕ → ℕ → Bool → List ℕ → ℕ
first_fault s count table asked [] = 0
first_fault s count table asked (i ∷ is) = or_fault (name_fault s count table asked i) (first_fault s count table asked is)

-- before any index is looked at. The count of strings stands at 0x38 and the offset of their ids at 0x3c
unfoldable pub head_fault : List ℕ → List ℕ → ℕ
head_fault s q =
    cond (is_too_large (length s)) 1
    (cond (ltb (length s) 0x70 || ltb (length s) (item (le32 s 0x3c) string_id_size (le32 s 0x38))) 3
    (cond (ltb 255 (length q) || not (is_ascii q)) 9 0))

unfoldable pub filter_fault : List ℕ → List ℕ → List ℕ → ℕ
filter_fault s q given = or_fault (head_fault s q) (first_fault s (le32 s 0x38) (le32 s 0x3c) (ltb 0 (length q)) given)
