-- The header record as C lends it: 13 words, offset and size of each table, and the map's offset.
-- Assumes nothing.
use Rattle.std.specs.Prelude.{ℕ, List, get_or}
use Rattle.tinydex.specs.declared.Table.{Table}
use Rattle.tinydex.specs.declared.DexHeader.{DexHeader}

-- the table whose offset is word i, and whose size is the next
abbrev pub table_of : List ℕ → ℕ → ℕ → Table
table_of ws i j = record { off = get_or ws i 0; size = get_or ws j 0 }

unfoldable pub header_of : List ℕ → DexHeader
header_of ws = record {
  strings = table_of ws 0 1;
  types = table_of ws 2 3;
  prototypes = table_of ws 4 5;
  fields = table_of ws 6 7;
  methods = table_of ws 8 9;
  classes = table_of ws 10 11;
  mapoff = get_or ws 12 0;
}
