-- `walk` meets its contract: the map's entry decides, as in `by_entry`.
-- Assumes nothing.
use Rattle.class_data.proofs.Entry.{entry_in, by_map, by_def}
use Rattle.class_data.proofs.walk.Goals as goal

pub build_map_bymap-requires : goal.build_map_bymap-requires
build_map_bymap-requires c = record { small = c.requires; inside = entry_in _ _ _ c.in-Some.ensures }

pub returns-in-Some : goal.returns-in-Some
returns-in-Some c = by_map _ _ _ c.in-Some.ensures c.build_map_bymap.ensures

pub returns-in-None : goal.returns-in-None
returns-in-None c = by_def _ _ _ c.in-None.ensures c.build_map_bydef.ensures
