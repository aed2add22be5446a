-- `findrefs::find` meets its contract: where the build refuses the other slices are cleared, and else the search follows it as the outcome has it;
-- the other clauses follow from what is given. Assumes nothing.
use native.Mathlib.Omega.{arith}
use Rattle.findrefs.proofs.Laws.{find_unbuilt, find_found, find_refused}
use Rattle.findrefs.proofs.Clauses.{clauses}
use Rattle.findrefs.proofs.find.Goals as goal

pub returns-in-Err : goal.returns-in-Err
returns-in-Err c =
    let all = clauses _ _ _ _ _ _ _ (find_unbuilt _ _ _ _ _ _ _ c.in-Err.is c.parse.ensures.gives c.clear_four.ensures) in
    record { gives = all.0; demand_3 = all.1.0; never_outside = all.1.1.0; alone = all.1.1.1 }

pub returns-in-Ok-search : goal.returns-in-Ok-search
returns-in-Ok-search c =
    let all = clauses _ _ _ _ _ _ _
    (find_found _ _ _ _ _ _ _ c.in-Ok.is c.parse.ensures.gives _ _ c.search.ensures _ c.in-Ok-search.is) in
    record { gives = all.0; demand_3 = all.1.0; never_outside = all.1.1.0; alone = all.1.1.1 }

pub returns-in-Err-search : goal.returns-in-Err-search
returns-in-Err-search c =
    let all = clauses _ _ _ _ _ _ _
    (find_refused _ _ _ _ _ _ _ c.in-Ok.is c.parse.ensures.gives _ _ c.search.ensures _ _ c.in-Err-search.is
    (record {
      starts = omega arith;
      triples = omega arith;
      slots = omega arith;
      shares = omega arith;
    })
    c.clear_four-in-Err-search.ensures) in
    record { gives = all.0; demand_3 = all.1.0; never_outside = all.1.1.0; alone = all.1.1.1 }
