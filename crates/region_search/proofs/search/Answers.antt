-- `region_search::search` meets its contract: each way out is one of the outcome's. Assumes nothing.
use lib.ListN.{length-take}
use mathlib.Core.Path.{◌≡◌}
use Rattle.std.specs.Prelude.{Err}
use Rattle.std.proofs.lemmas.Result.{err_from_is_err_and}
use native.Mathlib.Omega.{arith}
use Rattle.region_search.proofs.Searched.{search_refused, search_located, locate_refused, scan_fits}
use Rattle.region_search.proofs.search.Goals as goal

pub slice_bounds-locate-end : goal.slice_bounds-locate-end
slice_bounds-locate-end c = let fits = scan_fits _ _ _ _ c.in_ok-n.was c.scan.ensures.gives in omega arith

pub slice_bounds-locate-end-2 : goal.slice_bounds-locate-end-2
slice_bounds-locate-end-2 c =
    let fits = scan_fits _ _ _ _ c.in_ok-n.was c.scan.ensures.gives in
    simp length-take (omega arith)

pub returns-in_err-n : goal.returns-in_err-n
returns-in_err-n c =
    let p = err_from_is_err_and c.from_residual.result c.from_residual.ensures.1 in
    let e : c.from_residual.result ≡ Err c.in_err-n.field-0.0 = grind arith in
    rw e (search_refused _ _ _ _ _ _ c.in_err-n.was c.scan.ensures.gives c.clear.ensures c.clear-2.ensures)

pub returns-in-Err : goal.returns-in-Err
returns-in-Err c =
    locate_refused _ _ _ _ _ _ _ c.in_ok-n.was c.scan.ensures.gives _ _ _ c.first.ensures (omega arith) (omega arith)
    c.locate-located.ensures.gives _ _ c.in-Err.is c.clear-in-Err.ensures c.clear-in-Err-2.ensures (omega arith) (omega arith)

pub returns : goal.returns
returns c =
    search_located _ _ _ _ _ _ _ c.in_ok-n.was c.scan.ensures.gives _ _ _ c.first.ensures (omega arith) (omega arith)
    c.locate-located.ensures.gives _ c.in_default.is
