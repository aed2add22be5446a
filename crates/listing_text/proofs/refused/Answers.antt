-- `listing_text::refused` meets its contract: the name and the refusal's number are the text.
-- Assumes nothing.
use Rattle.refusal.specs.Refusals.{refusal_number}
use Rattle.text_out.specs.Text.{decimal}
use Rattle.text_out.proofs.Laws.{text_out}
use Rattle.listing_text.proofs.TextLaws.{named_number}
use Rattle.listing_text.specs.Text.{refusal=, refusal_out}
use mathlib.Core.List.{◌++◌}
use Rattle.listing_text.proofs.refused.Goals as goal

pub returns : goal.returns
unfolding refusal_out
returns c =
    let a = c.args in
    text_out a.out.now (refusal= ++ decimal (refusal_number a.why)) c.clear.ensures
    (named_number refusal= c.from.ensures c.put_named-a.ensures)
    c.end_line.ensures
