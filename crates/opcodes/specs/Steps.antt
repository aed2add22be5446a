-- How the table of lengths is read: what it holds, and entries as one number.
-- Assumes nothing.
use Rattle.std.specs.Prelude.{ℕ, zero, suc, ◌+◌, ◌*◌, ◌<◌, ◌≡◌, List, length, get_or}
use Rattle.opcodes.specs.Length.{units_of}

-- the table has the length of each opcode
pub record HoldsLengths (table : List ℕ) : Type 0 where
  pub long : length table ≡ 256
  pub each : (op : ℕ) → op < 256 → get_or table op 0 ≡ units_of op

-- the lengths of n opcodes in one number, four bits each, the first one lowest
unfoldable pub packed : ℕ → ℕ → ℕ
packed op zero = 0
packed op (suc n) = units_of op + 16 * packed (suc op) n
