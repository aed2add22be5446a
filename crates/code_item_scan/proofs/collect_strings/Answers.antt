-- The small set serves where it has a bit for each wanted word.
-- Assumes nothing.
use mathlib.Core.Path.{subst}
use Rattle.index_set.proofs.Bits.{held_zeros}
use Rattle.code_item_scan.specs.Steps.{WantedOf}
use Rattle.code_item_scan.proofs.Sets.{wanted_tells}
use Rattle.code_item_scan.proofs.collect_strings.Goals as goal

pub wanted_of-others-requires : goal.wanted_of-others-requires
wanted_of-others-requires c = held_zeros 512

pub collect-requires : goal.collect-requires
collect-requires c = (
  c.requires,
  wanted_tells _ _ _ _
      (subst (WantedOf _ _) c.if-others.false c.wanted_of-others.ensures),
)
