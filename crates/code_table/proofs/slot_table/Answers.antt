-- `slot_table` meets its contract: least and greatest bucket say how many slots there are, and all codes are placed between them.
-- Assumes nothing.
use native.Mathlib.Omega.{arith}
use Rattle.code_table.proofs.slot_table.Goals as goal

pub place_all-requires : goal.place_all-requires
place_all-requires c =
    let C = c.requires.coded in
    let b = c.least-base.ensures C.codes C.triples in
    record {
      cleared = c.requires;
      least = b;
      enough = omega (arith, c.saturating_sub-span.ensures, c.greatest-top.ensures C.codes C.triples);
    }
