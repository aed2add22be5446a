-- `string_locator::strings_area` meets its contract: the greatest data offset is inside the file or not.
-- Assumes nothing.
use Rattle.string_locator.proofs.Laws.{offset_outside, offsets_inside}
use native.Mathlib.Omega.{arith}
use Rattle.string_locator.proofs.strings_area.Goals as goal

pub returns-then-file-hi : goal.returns-then-file-hi
returns-then-file-hi c = offset_outside _ _ _ (omega (arith, c.offset_bounds-bounds.ensures.1))

pub returns : goal.returns
returns c =
    let b = c.offset_bounds-bounds.ensures in
    offsets_inside _ _ _ _ _ _ b.0 b.1 c.if-file-hi.false c.text_area.ensures
