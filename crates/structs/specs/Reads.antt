-- What a read answers: the little-endian number, in which a byte past the file's end is 0; or, in the form with a case of its own for it,
-- the number where all its bytes are inside the file.
-- Assumes nothing.
use Rattle.std.specs.Prelude.{ℕ, ◌+◌, ◌<◌, ◌≡◌, List, cond, length, leb, Option, Some, None}
use Rattle.dalvik.specs.Numbers.{byte, le16, le32}

-- r is the byte at i
pub record ByteAt (s : List ℕ) (i r : ℕ) : Type 0 where
  pub is : r ≡ byte s i
  pub small : r < 256

-- r is the number of 2 bytes at i
pub record HalfAt (s : List ℕ) (i r : ℕ) : Type 0 where
  pub is : r ≡ le16 s i
  pub small : r < 65536

unfoldable pub read16 : List ℕ → ℕ → Option ℕ
read16 s i = cond (leb (i + 2) (length s)) (Some (le16 s i)) None

unfoldable pub read32 : List ℕ → ℕ → Option ℕ
read32 s i = cond (leb (i + 4) (length s)) (Some (le32 s i)) None
