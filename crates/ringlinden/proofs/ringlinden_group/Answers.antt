-- `ringlinden::ringlinden_group` meets its contract: start and count are those of the group. Assumes nothing.
use mathlib.Core.Path.{refl}
use Rattle.ringlinden.proofs.ringlinden_group.Goals as goal

pub returns : goal.returns
returns c = record { value = refl; group_at = c.group_span-span.ensures }
