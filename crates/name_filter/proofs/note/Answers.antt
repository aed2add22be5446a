-- `name_filter::note` meets its contract: both sets have a bit for the index. Assumes nothing.
use Rattle.name_filter.proofs.Marks.{noted_seen, noted_both}
use Rattle.name_filter.proofs.note.Goals as goal

pub returns-then-named : goal.returns-then-named
returns-then-named c =
    noted_both c.add.ensures c.requires _ c.if-named.true c.add-then-named.ensures

pub returns-else-named : goal.returns-else-named
returns-else-named c =
    noted_seen c.add.ensures c.requires _ c.if-named.false
