-- A layout of 4 bytes at place 0 is descriptor_idx.
-- Assumes nothing.
use Rattle.groups.specs.declared.Width.TheVariants.{Four}
use Rattle.groups.proofs.FileKeys.{key_first}
use Rattle.groups.proofs.Built.{by_key}
use Rattle.type_locator.proofs.build_map.Goals as goal

pub returns : goal.returns
returns c = record { gives = by_key _ _ _ _ _ (key_first _ _ 4 Four) c.build.ensures.gives }
