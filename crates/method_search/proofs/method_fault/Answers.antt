-- A law for each way out, in the order of the tests.
-- Assumes nothing.
use Rattle.method_search.proofs.Steps.{fault_search, fault_table, fault_nothing}
use Rattle.std.specs.Prelude.{Err}
use Rattle.words.proofs.Shared.{met}
use borrow.Author.Rules.{rules}
use mathlib.Core.Path.{◌≡◌}
use Rattle.method_search.proofs.method_fault.Goals as goal

pub returns-in_err-search_fault : goal.returns-in_err-search_fault
returns-in_err-search_fault c =
    let e : c.from_residual.result ≡ Err c.in_err-search_fault.field-0.0 = search rules in
    rw e (fault_search _ _ _ _ _ _ c.max.ensures c.in_err-search_fault.field-0.0 c.in_err-search_fault.ensures)

pub returns-then-passes_end : goal.returns-then-passes_end
returns-then-passes_end c =
    fault_table _ _ _ _ _ _ c.max.ensures c.in_ok-search_fault.ensures (met c.passes_end.ensures c.if-passes_end.true)

pub returns : goal.returns
returns c =
    fault_nothing _ _ _ _ _ _ c.max.ensures c.in_ok-search_fault.ensures (met c.passes_end.ensures c.if-passes_end.false)
