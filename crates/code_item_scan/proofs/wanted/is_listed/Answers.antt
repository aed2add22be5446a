-- The words are cut from their end into parts, and the walk stops at a part that has x, or has passed them all.
-- Assumes nothing.
use mathlib.Core.Path.{ap, ◌∙◌}
use borrow.Author.Rules.{rules}
use Rattle.code_item_scan.specs.Scan.{is_in}
use Rattle.code_item_scan.proofs.Sets.{parts_is_in}
use Rattle.code_item_scan.proofs.wanted.is_listed.Goals as goal

pub returns : goal.returns
returns c =
    parts_is_in _ _ c.args.x (λ p b q h. search rules) _ c.rchunks.result c.any.new.self c.any.ensures.ran ∙ ap (is_in c.args.x) c.rchunks.ensures.rest
