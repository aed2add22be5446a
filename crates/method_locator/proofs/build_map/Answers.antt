-- Where one of the builds refuses everything is cleared after it.
-- Assumes nothing.
use mathlib.Core.Path.{ap, ◌∙◌}
use Rattle.words.specs.Padded.{zeros}
use Rattle.method_locator.proofs.Both.{cleared_after}
use Rattle.method_locator.proofs.build_map.Goals as goal

pub returns-then-is_err : goal.returns-then-is_err
returns-then-is_err c = record {
  gives = let w = c.build_both-built.auto in
      cleared_after _ _ _ c.build_both-built.ensures c.if-is_err.ensures.value
      (record {
        clz_offs = c.clear.ensures ∙ ap zeros w.clz_offsets;
        clz_ids = c.clear-then-is_err.ensures ∙ ap zeros w.clz_mids;
        name_offs = c.clear-then-is_err-2.ensures ∙ ap zeros w.name_offsets;
        name_ids = c.clear-then-is_err-3.ensures ∙ ap zeros w.name_mids;
      });
}
