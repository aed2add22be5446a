-- Which methods have code: "Dalvik Executable format", "class_def_item", "class_data_item", "encoded_field format" and
-- "encoded_method format". Where the class data items stand is said as in SPEC, Class data: by the map, else by the class
-- definitions.
-- Assumes nothing.
use Rattle.std.specs.Prelude.{ℕ, suc, ◌+◌, ◌*◌, ◌≤◌, ◌<◌, ◌^◌, ◌≡◌, ◌≢◌, List, [], ◌∷◌, ◌++◌, length}
use Rattle.dalvik.specs.Numbers.{le32, Uleb128, Uleb128s}
use Rattle.dalvik.specs.MapList.{ClassDataEntry, NoClassDataEntry, map_size, map_offset}
use Rattle.dalvik.specs.CodeItem.{Code, insns_size}

-- n encoded methods from i to e: method_idx_diff, access_flags, code_off. m is the index before them; those with a code_off
-- other than 0 have code
pub data EncodedMethods (s : List ℕ) : ℕ → ℕ → ℕ → List Code → ℕ → Type 0 where
  no_more : {i m : ℕ} → EncodedMethods s 0 i m [] i
  without_code : {n i m d a f b c e : ℕ} {cs : List Code} → Uleb128 s i d a → m + d < 2 ^ 32 → Uleb128 s a f b → Uleb128 s b 0 c
      → EncodedMethods s n c (m + d) cs e → EncodedMethods s (suc n) i m cs e
  with_code : {n i m d a f b c o e : ℕ} {cs : List Code} → Uleb128 s i d a → m + d < 2 ^ 32 → Uleb128 s a f b → Uleb128 s b o c → o ≢ 0
      → EncodedMethods s n c (m + d) cs e → EncodedMethods s (suc n) i m (record { method = m + d; off = o; units = insns_size s o } ∷ cs) e

-- a class data item from i to e: four sizes, two numbers for each field, the direct methods and the virtual methods
pub record ClassData (s : List ℕ) (i : ℕ) (codes : List Code) (e : ℕ) : Type 0 where
  pub static_fields_size : ℕ
  pub instance_fields_size : ℕ
  pub direct_methods_size : ℕ
  pub virtual_methods_size : ℕ
  pub a : ℕ
  pub b : ℕ
  pub c : ℕ
  pub d : ℕ
  pub f : ℕ
  pub g : ℕ
  pub size_statics : Uleb128 s i static_fields_size a
  pub size_instances : Uleb128 s a instance_fields_size b
  pub size_directs : Uleb128 s b direct_methods_size c
  pub size_virtuals : Uleb128 s c virtual_methods_size d
  pub fields : Uleb128s s (2 * (static_fields_size + instance_fields_size)) d f
  pub in_directs : List Code
  pub in_virtuals : List Code
  pub direct : EncodedMethods s direct_methods_size f 0 in_directs g
  pub virtual : EncodedMethods s virtual_methods_size g 0 in_virtuals e
  pub all : in_directs ++ in_virtuals ≡ codes

-- n class data items one after another, from i on
pub data Successive (s : List ℕ) : ℕ → ℕ → List Code → Type 0 where
  no_more : {i : ℕ} → Successive s 0 i []
  one_more : {n i e : ℕ} {cs ds : List Code} → ClassData s i cs e → Successive s n e ds → Successive s (suc n) i (cs ++ ds)

abbrev pub class_def_size : ℕ
class_def_size = 32

-- 0 where the class has no data
abbrev pub class_data_off : List ℕ → ℕ → ℕ
class_data_off s i = le32 s (i + 24)

-- the class data items of n class definitions from i on, all inside the file
pub data Defined (s : List ℕ) : ℕ → ℕ → List Code → Type 0 where
  no_more : {i : ℕ} → Defined s 0 i []
  no_data : {n i : ℕ} {ds : List Code} → i + class_def_size ≤ length s → class_data_off s i ≡ 0 → Defined s n (i + class_def_size) ds
      → Defined s (suc n) i ds
  some_data : {n i e : ℕ} {cs ds : List Code} → i + class_def_size ≤ length s → class_data_off s i ≢ 0
      → ClassData s (class_data_off s i) cs e → Defined s n (i + class_def_size) ds → Defined s (suc n) i (cs ++ ds)

-- the codes of the file, in the order found: by the map's first entry of class data, else by the class definitions. The numbers
-- are the header record's: the map's offset, and the class definitions' offset and count
pub data CodesOf (s : List ℕ) (mapoff classes_off classes : ℕ) : List Code → Type 0 where
  by_map : {e : ℕ} {cs : List Code} → mapoff ≢ 0 → mapoff + 4 ≤ length s → ClassDataEntry s (le32 s mapoff) (mapoff + 4) e
      → Successive s (map_size s e) (map_offset s e) cs → CodesOf s mapoff classes_off classes cs
  without_entry : {cs : List Code} → mapoff ≢ 0 → mapoff + 4 ≤ length s → NoClassDataEntry s (le32 s mapoff) (mapoff + 4)
      → Defined s classes classes_off cs → CodesOf s mapoff classes_off classes cs
  without_map : {cs : List Code} → mapoff ≡ 0 → Defined s classes classes_off cs → CodesOf s mapoff classes_off classes cs
