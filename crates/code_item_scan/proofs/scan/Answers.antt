-- A refusal leaves what was cleared, and the hits collected into zeros are settled.
-- Assumes nothing.
use mathlib.Core.Path.{◌≡◌}
use Rattle.std.specs.Prelude.{Err}
use Rattle.std.proofs.lemmas.Result.{err_from_is_err_and}
use native.Mathlib.Omega.{arith}
use Rattle.code_item_scan.specs.Scan.{asked}
use Rattle.code_item_scan.proofs.Whole.{admitted_region, admitted_scan, admitted_refusal, gives_refused, gives_settled}
use Rattle.code_item_scan.proofs.scan.Goals as goal

pub collect_any-n-requires : goal.collect_any-n-requires
collect_any-n-requires c =
    let a = c.args in
    admitted_region a.file.now (asked a.kind a.wanted.now a.start a.end) c.in_ok-k.k c.in_ok-k.was
    c.admit.ensures

pub returns-in_err-k : goal.returns-in_err-k
returns-in_err-k c = record {
  gives =
      let a = c.args in
      let p = err_from_is_err_and c.from_residual.result c.from_residual.ensures.1 in
      let e : c.from_residual.result ≡ Err c.in_err-k.field-0.0 = grind arith in
      rw e
      (gives_refused c.in_err-k.field-0.0
      (admitted_refusal a.file.now (asked a.kind a.wanted.now a.start a.end) _ c.in_err-k.field-0.0 c.in_err-k.was c.admit.ensures)
      c.clear_both.ensures);
}

pub returns : goal.returns
returns c = record {
  gives = let a = c.args in
      gives_settled
      (admitted_scan a.file.now (asked a.kind a.wanted.now a.start a.end) c.in_ok-k.k c.in_ok-k.was _ c.admit.ensures)
      c.clear_both.ensures c.collect_any-n.ensures c.settle.ensures;
}
