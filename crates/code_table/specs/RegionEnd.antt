-- Where the code region ends (SPEC, Code table). This is the one place that says so: the laws are in proofs/RegionEnd.
-- Assumes nothing.
use Rattle.std.specs.Prelude.{ℕ, ◌*◌, ◌≤◌, min, List}
use Rattle.dalvik.specs.CodeItem.{Code}
use Rattle.code_table.specs.Slots.{top_of}

-- of a file of len bytes with these codes: (greatest last bucket + 1) · 16, or the file's end where that bucket sticks out
unfoldable pub region_end : ℕ → List Code → ℕ
region_end len cs = min (top_of cs * 16) len

-- a region lies in a file of len bytes: it is not backward, and not past the end
pub record RegionInside (len from to : ℕ) : Type 0 where
  pub rises : from ≤ to
  pub inside : to ≤ len
