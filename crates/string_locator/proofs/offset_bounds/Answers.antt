use Rattle.string_locator.proofs.Laws.{least_first, greatest_first, least_more, greatest_more}
use mathlib.Core.Path.{◌∙◌}
use Rattle.string_locator.proofs.offset_bounds.Goals as goal

pub loop-i-init : goal.loop-i-init
loop-i-init c = (least_first _ _ _ c.data_offset-first.ensures, greatest_first _ _ _ c.data_offset-first.ensures)

pub loop-i-preserved : goal.loop-i-preserved
loop-i-preserved c =
    let v = c.loop-i.invariant in
    let o = c.data_offset-offset.ensures in
    (c.min-least.ensures ∙ least_more _ _ _ _ _ v.0 o, c.max-greatest.ensures ∙ greatest_more _ _ _ _ _ v.1 o)
