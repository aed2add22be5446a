-- The set has a bit for every index that a file can have, and tells whether there are others.
-- Assumes nothing.
use Rattle.index_set.proofs.Bits.{held_zeros}
use Rattle.code_item_scan.proofs.Sets.{wanted_tells}
use Rattle.code_item_scan.proofs.collect_many.Goals as goal

pub wanted_of-others-requires : goal.wanted_of-others-requires
wanted_of-others-requires c = held_zeros 65536

pub collect-requires : goal.collect-requires
collect-requires c =
    (c.requires, wanted_tells _ _ _ _ c.wanted_of-others.ensures)
