-- `code_item` meets its contract: the read of insns_size is inside exactly where the header is.
-- Assumes nothing.
use Rattle.std.specs.Prelude.{None}
use borrow.Author.Rules.{rules}
use mathlib.Core.Path.{◌≡◌}
use native.Mathlib.Omega.{arith}
use Rattle.structs.proofs.Laws.{read32_value, read32_outside}
use Rattle.class_data.proofs.Laws.{item_header, item_empty, item_past, item_units}
use Rattle.class_data.proofs.item.code_item.Goals as goal

pub returns-in_err-units : goal.returns-in_err-units
returns-in_err-units c =
    let e : c.from_residual.result ≡ None = search rules in
    rw e (item_header _ _ (read32_outside _ _ c.in_err-units.ensures))

pub returns-then-units-eq0 : goal.returns-then-units-eq0
returns-then-units-eq0 c =
    let v = read32_value _ _ _ c.in_ok-units.ensures in
    item_empty _ _ v.inside _ v.is (omega arith)

pub returns-then-buf-at : goal.returns-then-buf-at
returns-then-buf-at c =
    let v = read32_value _ _ _ c.in_ok-units.ensures in
    item_past _ _ v.inside _ v.is c.if-units-eq0.false (omega arith)

pub returns : goal.returns
returns c =
    let v = read32_value _ _ _ c.in_ok-units.ensures in
    item_units _ _ v.inside _ v.is c.if-units-eq0.false (omega arith)
