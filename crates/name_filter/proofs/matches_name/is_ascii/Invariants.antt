-- `matches_name::is_ascii` meets its contract: `all` is below 128 as long as every byte is.
-- Assumes nothing.
use Rattle.name_filter.proofs.HasName.{AsciiBelow}
use lib.ListN.{length}
use Prim.Native.Nat.{◌≤◌}
use Rattle.name_filter.proofs.matches_name.is_ascii.Given as goal

abbrev pub invariant-loop-byte : goal.invariant-loop-byte
invariant-loop-byte l = (l.byte-index ≤ length l.bytes) × AsciiBelow l.bytes l.byte-index l.all
