-- `region_end` meets its contract: it takes the lesser of the bucket's end and the file's, and both fit 32 bits for a file of 16 MiB.
-- Assumes nothing.
use mathlib.Core.Path.{◌∙◌}
use Rattle.code_table.proofs.RegionEnd.{end_least}
use Rattle.code_table.proofs.region_end.Goals as goal

pub returns : goal.returns
returns c = λ cs e. c.min.ensures ∙ end_least _ cs _ e
