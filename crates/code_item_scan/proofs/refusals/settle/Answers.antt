-- The test of both lengths decides: hits that fit stay, else both slices are cleared.
-- Assumes nothing.
use mathlib.Core.Logic.{inl, inr}
use Rattle.code_item_scan.proofs.Whole.{settle_kept, settle_cleared}
use Rattle.code_item_scan.proofs.refusals.settle.Goals.{then-n-offs+else-n-marks, else-n-offs}
use Rattle.code_item_scan.proofs.refusals.settle.Goals as goal

pub returns-then-n-marks : goal.returns-then-n-marks
returns-then-n-marks c = settle_kept _ _ c.if-n-offs.true c.if-n-marks.true

pub returns : goal.returns
returns c =
    settle_cleared _ _ _ (elim c.if-n-offs.branch [ then-n-offs+else-n-marks w ↦ inr w.if-n-marks.false | else-n-offs w ↦ inl w.if-n-offs.false ]) c.clear_both.ensures
