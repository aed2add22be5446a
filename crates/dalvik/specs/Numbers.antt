-- Numbers in a file: "Dalvik Executable format", "Bitfield, string and constant definitions" (little endian) and "LEB128".
-- A file is the list of its bytes.
-- Assumes nothing.
use Rattle.std.specs.Prelude.{ℕ, suc, ◌+◌, ◌-◌, ◌*◌, ◌<◌, ◌≤◌, ◌^◌, List, length, get_or}

-- the byte at i, 0 after the file's end
abbrev pub byte : List ℕ → ℕ → ℕ
byte s i = get_or s i 0

-- every element is a byte
abbrev pub Bytes : List ℕ → Type 0
Bytes s = (i : ℕ) → byte s i < 256

-- ushort and uint: 2 and 4 bytes, little endian
unfoldable pub le16 : List ℕ → ℕ → ℕ
le16 s i = byte s i + 256 * byte s (i + 1)

unfoldable pub le32 : List ℕ → ℕ → ℕ
le32 s i = le16 s i + 65536 * le16 s (i + 2)

-- a little-endian base 128 number of at most k bytes stands at i: its value, and the offset after it
pub data Leb128 (s : List ℕ) : ℕ → ℕ → ℕ → ℕ → Type 0 where
  last_byte : {k i : ℕ} → i < length s → byte s i < 128 → Leb128 s (suc k) i (byte s i) (i + 1)
  more_bytes : {k i v e : ℕ} → i < length s → 128 ≤ byte s i → Leb128 s k (i + 1) v e → Leb128 s (suc k) i (byte s i - 128 + 128 * v) e

-- uleb128: one to five bytes, which together represent a single 32-bit value
pub record Uleb128 (s : List ℕ) (i v e : ℕ) : Type 0 where
  pub number : Leb128 s 5 i v e
  pub fits : v < 2 ^ 32

-- n numbers one after another, from i to e
pub data Uleb128s (s : List ℕ) : ℕ → ℕ → ℕ → Type 0 where
  no_more : {i : ℕ} → Uleb128s s 0 i i
  one_more : {n i v a e : ℕ} → Uleb128 s i v a → Uleb128s s n a e → Uleb128s s (suc n) i e
