-- The code of a method: "Dalvik Executable format", "code_item". Of its header of 16 bytes the last four are insns_size, the
-- length of the instruction array after the header, in units of two bytes.
-- Assumes nothing.
use Rattle.std.specs.Prelude.{ℕ, ◌+◌, ◌*◌, List}
use Rattle.dalvik.specs.Numbers.{le32}

abbrev pub header_size : ℕ
header_size = 16

abbrev pub insns_size : List ℕ → ℕ → ℕ
insns_size s off = le32 s (off + 12)

-- a method with code: its index, its code item's offset, and the length of the array in units
pub record Code : Type 0 where
  pub method : ℕ
  pub off : ℕ
  pub units : ℕ

-- the array's first byte, and the offset after its last
abbrev pub start : Code → ℕ
start c = c.off + header_size

abbrev pub stop : Code → ℕ
stop c = c.off + header_size + 2 * c.units
