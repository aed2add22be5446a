-- The empty name finds nothing; another has the faults of string search.
-- Assumes nothing.
use Rattle.method_search.proofs.Steps.{same_fault, found_fault}
use Rattle.string_search.proofs.Listing.{owners_listed}
use Rattle.std.specs.Prelude.{Err}
use Rattle.word_set.proofs.Found.{found_refused, found_none}
use borrow.Author.Rules.{rules}
use borrow.Author.Tests.{eqb-true, eqb-false}
use lib.ListN.{length}
use mathlib.Core.Path.{◌≡◌, sym, ◌∙◌}
use native.Mathlib.Omega.{arith}
use Rattle.method_search.proofs.locate_name.Goals as goal

pub returns-in_err-search_fault : goal.returns-in_err-search_fault
returns-in_err-search_fault c =
    let e : c.from_residual.result ≡ Err c.in_err-search_fault.field-0.0 = search rules in
    rw e (found_refused (owners_listed _ _) _ _ c.in_err-search_fault.ensures c.clear.ensures)

pub returns-then-is_empty : goal.returns-then-is_empty
returns-then-is_empty c =
    let name = c.args.sought.now.name in
    let z : length name.now ≡ 0 = eqb-true (length name.now) 0 (sym c.is_empty.ensures ∙ c.if-is_empty.true) in
    found_none (λ x o. omega (arith, o.asked)) _ c.in_ok-search_fault.ensures c.clear.ensures

pub returns : goal.returns
returns c =
    let name = c.args.sought.now.name in
    found_fault (same_fault _ _ _ (eqb-false (length name.now) 0 (sym c.is_empty.ensures ∙ c.if-is_empty.false))) c.locate.ensures.gives
