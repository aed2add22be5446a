-- Each way out is one way that the bytes at a start name no wanted index, or name one.
-- Assumes nothing.
use mathlib.Core.Path.{sym, ◌∙◌}
use Prim.Native.Nat.{◌+◌}
use native.Mathlib.Omega.{arith}
use Rattle.dalvik.specs.Instructions.Kind.{strings}
use Rattle.dalvik.specs.Numbers.{byte}
use Rattle.code_item_scan.proofs.Starts.{named_other, named_short, named_wanted, named_unwanted, index_four, index_two}
use Rattle.kinds.proofs.Widths.{width_small}
use Rattle.code_item_scan.proofs.hits.string_hit.Goals.{then-w-eq4, else-w-eq4}
use Rattle.code_item_scan.proofs.hits.string_hit.Goals as goal

pub returns-then-w-eq0 : goal.returns-then-w-eq0
returns-then-w-eq0 c =
    let a = c.args in
    named_other a.s.now strings _ a.end a.at (sym c.if-w-eq0.true ∙ c.string_width-w.ensures)

pub overflow_add-w : goal.overflow_add-w
overflow_add-w c =
    omega (arith, c.string_width-w.ensures, width_small (byte c.args.s.now c.args.at))

pub returns-then-end-at : goal.returns-then-end-at
returns-then-end-at c =
    let a = c.args in
    named_short a.s.now strings _ a.end a.at c.string_width-w.result c.string_width-w.ensures (omega arith)

pub returns-then-is_wanted : goal.returns-then-is_wanted
returns-then-is_wanted c =
    let a = c.args in
    let v = c.string_width-w in
    named_wanted a.s.now strings _ a.end a.at v.result c.if-w-eq4.x v.ensures (omega arith) (omega arith)
    (elim c.if-w-eq4.branch [
      | then-w-eq4 w ↦ w.x-is ∙ w.u32_inside-x.ensures ∙ index_four a.s.now (a.at + 2) v.result w.if-w-eq4.true
      | else-w-eq4 w ↦ w.x-is ∙ w.u16_inside-x.ensures.is ∙ index_two a.s.now (a.at + 2) v.result w.if-w-eq4.false
    ])
    (sym c.is_wanted.ensures ∙ c.if-is_wanted.true)

pub returns : goal.returns
returns c =
    let a = c.args in
    let v = c.string_width-w in
    named_unwanted a.s.now strings _ a.end a.at v.result c.if-w-eq4.x v.ensures
    (elim c.if-w-eq4.branch [
      | then-w-eq4 w ↦ w.x-is ∙ w.u32_inside-x.ensures ∙ index_four a.s.now (a.at + 2) v.result w.if-w-eq4.true
      | else-w-eq4 w ↦ w.x-is ∙ w.u16_inside-x.ensures.is ∙ index_two a.s.now (a.at + 2) v.result w.if-w-eq4.false
    ])
    (sym c.is_wanted.ensures ∙ c.if-is_wanted.false)
