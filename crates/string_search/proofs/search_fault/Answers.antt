-- A law for each way out, in the order of the tests.
-- Assumes nothing.
use Rattle.string_search.proofs.Faults.{fault_large, fault_query, fault_keys, fault_none}
use mathlib.Core.Path.{sym}
use Rattle.string_search.proofs.search_fault.Goals as goal

pub returns-then-too_large : goal.returns-then-too_large
returns-then-too_large c = fault_large _ _ _ _ (sym c.if-too_large.ensures)

pub returns-then-bytes-shortest : goal.returns-then-bytes-shortest
returns-then-bytes-shortest c = fault_query _ _ _ _ (sym c.if-too_large.ensures) c.then-bytes-shortest.either

pub returns-then-not-keys_good : goal.returns-then-not-keys_good
returns-then-not-keys_good c =
    fault_keys _ _ _ _ (sym c.if-too_large.ensures) c.if-bytes-shortest.false c.if-bytes-gt255.false (sym c.if-not-keys_good.ensures)

pub returns : goal.returns
returns c =
    fault_none _ _ _ _ (sym c.if-too_large.ensures) c.if-bytes-shortest.false c.if-bytes-gt255.false (sym c.if-not-keys_good.ensures)
