-- The table is right: one computed test over the array, at each opcode its entry against the ranges.
-- Assumes nothing.
use Prim.Native.Nat.{ℕ}
use mathlib.Core.Path.{◌≡◌}
use mathlib.Core.List.{List}
use lib.Dec.{T}
use lib.ListN.{length, get_or}
use Rattle.opcodes.specs.Length.{units_of}
use Rattle.opcodes.specs.Steps.{HoldsLengths}
use Rattle.opcodes.proofs.Everywhere.{agree, everywhere}

abbrev pub entry_of : List ℕ → ℕ → ℕ
entry_of table op = get_or table op 0

pub right : {table : List ℕ} → length table ≡ 256 → T (agree (entry_of table) units_of) → HoldsLengths table
right {table} e t = record { long = e; each = everywhere (entry_of table) units_of t }
