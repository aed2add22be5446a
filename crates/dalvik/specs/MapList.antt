-- The map: "Dalvik Executable format", "map_list", "map_item" and "Type codes". Four bytes give the number of items, and the
-- items follow, of 12 bytes each: type (2 bytes), unused (2), size (4), offset (4).
-- Assumes nothing.
use Rattle.std.specs.Prelude.{ℕ, suc, ◌+◌, ◌≤◌, ◌≡◌, ◌≢◌, List, length}
use Rattle.dalvik.specs.Numbers.{le16, le32}

abbrev pub map_item_size : ℕ
map_item_size = 12

-- TYPE_CLASS_DATA_ITEM
abbrev pub class_data_type : ℕ
class_data_type = 0x2000

abbrev pub map_type : List ℕ → ℕ → ℕ
map_type s i = le16 s i

abbrev pub map_size : List ℕ → ℕ → ℕ
map_size s i = le32 s (i + 4)

abbrev pub map_offset : List ℕ → ℕ → ℕ
map_offset s i = le32 s (i + 8)

-- among n map items from i on, e is the first of class data; this one and those before it lie inside the file
pub data ClassDataEntry (s : List ℕ) : ℕ → ℕ → ℕ → Type 0 where
  this : {n i : ℕ} → i + map_item_size ≤ length s → map_type s i ≡ class_data_type → ClassDataEntry s (suc n) i i
  later : {n i e : ℕ} → i + map_item_size ≤ length s → map_type s i ≢ class_data_type → ClassDataEntry s n (i + map_item_size) e
      → ClassDataEntry s (suc n) i e

-- none of the n map items from i on is of class data; all lie inside the file
pub data NoClassDataEntry (s : List ℕ) : ℕ → ℕ → Type 0 where
  no_more : {i : ℕ} → NoClassDataEntry s 0 i
  one_more : {n i : ℕ} → i + map_item_size ≤ length s → map_type s i ≢ class_data_type → NoClassDataEntry s n (i + map_item_size)
      → NoClassDataEntry s (suc n) i
