-- The ranges give the published lengths: one computed test over all 256 opcodes against the first digit of each published format.
-- Assumes nothing.
use Prim.Native.Nat.{ℕ, ◌<◌}
use mathlib.Core.Path.{◌≡◌}
use Rattle.dalvik.specs.Formats.{formats, format_of, length_of}
use Rattle.opcodes.specs.Length.{units_of}
use Rattle.opcodes.proofs.Everywhere.{everywhere}

pub units_published : (op : ℕ) → op < 256 → units_of op ≡ length_of op
unfolding units_of length_of format_of formats
units_published = everywhere units_of length_of tt
