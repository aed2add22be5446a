-- `codes` meets its contract: it is the walk into cleared words, which are cleared again on a refusal.
-- Assumes nothing.
use native.Mathlib.Omega.{arith}
use Rattle.class_data.specs.Stored.{code_words}
use Rattle.class_data.proofs.Gives.{fit_cleared, fit_kept, cleared_again}
use Rattle.class_data.proofs.codes.Goals as goal

pub returns-then-is_err : goal.returns-then-is_err
returns-then-is_err c = record {
  gives = let p = c.walk_fitting-count in
      fit_cleared _ _ _ _ _ p.ensures c.if-is_err.ensures.value
      (cleared_again {mid = code_words p.new.triples p.new.starts}
      (record { triples = c.clear.ensures; starts = c.clear-then-is_err.ensures })
      (record { triples = omega arith; starts = omega arith }));
}

pub returns-else-is_err : goal.returns-else-is_err
returns-else-is_err c = record { gives = fit_kept _ _ _ _ _ c.walk_fitting-count.ensures c.if-is_err.ensures.value }
