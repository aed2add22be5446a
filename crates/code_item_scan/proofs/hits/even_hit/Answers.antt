-- The table and the opcode decide, one after the other.
-- Assumes nothing.
use mathlib.Core.Path.{sym, ◌∙◌}
use Rattle.kinds.specs.Kinds.{meant}
use Rattle.code_item_scan.proofs.Starts.{even_hit_unwanted, even_hit_other, even_hit_wanted}
use Rattle.code_item_scan.proofs.hits.even_hit.Goals as goal

pub returns-then-table-x-eq0 : goal.returns-then-table-x-eq0
returns-then-table-x-eq0 c =
    let a = c.args in
    let r = c.u16_inside-x in
    even_hit_unwanted a.s.now (meant a.kind) a.table.now a.at c.requires.2 r.result r.ensures c.if-table-x-eq0.true

pub returns-then-width-eq0 : goal.returns-then-width-eq0
returns-then-width-eq0 c =
    let a = c.args in
    even_hit_other a.s.now (meant a.kind) a.table.now a.at c.requires.2 (sym c.if-width-eq0.true ∙ c.width.ensures)

pub returns : goal.returns
returns c =
    let r = c.u16_inside-x in
    let a = c.args in
    even_hit_wanted a.s.now (meant a.kind) a.table.now a.at c.requires.2 r.result c.requires.1 r.ensures
    c.if-table-x-eq0.false
    (λ e. c.if-width-eq0.false (c.width.ensures ∙ e))
