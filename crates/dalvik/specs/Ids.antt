-- The id items and the string data: "Dalvik Executable format", "string_id_item", "string_data_item", "type_id_item"
-- and "method_id_item". A table of ids begins at an offset that the header gives.
-- Assumes nothing.
use Rattle.std.specs.Prelude.{ℕ, ◌+◌, ◌*◌, ◌<◌, ◌≡◌, ◌≢◌, List, length, take, drop}
use Rattle.dalvik.specs.Numbers.{byte, le16, le32, Uleb128}

-- where item i of a table stands whose items have `size` bytes
abbrev pub item : ℕ → ℕ → ℕ → ℕ
item table size i = table + size * i

-- string_id_item: 4 bytes
abbrev pub string_id_size : ℕ
string_id_size = 4

abbrev pub string_data_off : List ℕ → ℕ → ℕ → ℕ
string_data_off s table i = le32 s (item table string_id_size i)

-- type_id_item: 4 bytes
abbrev pub type_id_size : ℕ
type_id_size = 4

abbrev pub type_descriptor_idx : List ℕ → ℕ → ℕ → ℕ
type_descriptor_idx s table i = le32 s (item table type_id_size i)

-- method_id_item: 8 bytes
abbrev pub method_id_size : ℕ
method_id_size = 8

abbrev pub method_class_idx : List ℕ → ℕ → ℕ → ℕ
method_class_idx s table i = le16 s (item table method_id_size i)

abbrev pub method_name_idx : List ℕ → ℕ → ℕ → ℕ
method_name_idx s table i = le32 s (item table method_id_size i + 4)

-- string_data_item at i: the size in UTF-16 code units, and n bytes of MUTF-8 up to a zero byte, of which none is zero
pub record StringData (s : List ℕ) (i : ℕ) (text : List ℕ) : Type 0 where
  pub utf16_size : ℕ
  pub start : ℕ
  pub n : ℕ
  pub size : Uleb128 s i utf16_size start
  pub inside : start + n < length s
  pub none_zero : (k : ℕ) → k < n → byte s (start + k) ≢ 0
  pub final_zero : byte s (start + n) ≡ 0
  pub bytes : text ≡ take n (drop start s)
