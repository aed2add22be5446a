-- The table that is filled tells which indices are wanted.
-- Assumes nothing.
use Rattle.code_item_scan.proofs.Sets.{table_tells}
use Rattle.code_item_scan.proofs.collect_even.Goals as goal

pub collect-requires : goal.collect-requires
collect-requires c =
    (c.requires.0, table_tells _ _ _ _ c.requires.1 c.table_of.ensures)
