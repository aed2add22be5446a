-- `name_filter::sift_with` meets its contract: its sets are empty and have a bit for each string. Assumes nothing.
use native.Mathlib.Omega.{arith}
use Rattle.name_filter.proofs.Sifting.{begun}
use Rattle.name_filter.proofs.sift_with.Goals as goal

pub sift-requires : goal.sift-requires
sift-requires g c = begun _ c.requires.few (omega arith) c.requires.counted
