-- `listing_text::head` meets its contract: a number that is no kind's is refused first; otherwise the pieces one after another
-- are the head's text.
-- Assumes nothing.
use mathlib.Core.Path.{refl}
use mathlib.Core.List.{◌++◌}
use lib.ListN.{length}
use native.Mathlib.Omega.{arith}
use Rattle.refusal.specs.declared.Refusal.TheVariants.{UnknownKind}
use Rattle.refusal.proofs.Outcomes.{gives_refused}
use Rattle.request.specs.Lines.{kind=}
use Rattle.text_out.specs.Text.{decimal}
use Rattle.text_out.proofs.Laws.{writes_then, writes_named, text_out}
use Rattle.listing_text.specs.Text.{kind_name, hits=}
use Rattle.listing_text.proofs.TextLaws.{head_unknown, head_known}
use Rattle.listing_text.proofs.head.Goals as goal

pub returns-then-kind-eq0 : goal.returns-then-kind-eq0
returns-then-kind-eq0 c =
    rw (head_unknown _ _ _ c.then-kind-eq0.either)
    (gives_refused _ _ _ UnknownKind refl c.clear.ensures)

pub returns : goal.returns
returns c =
    let a = c.args in
    rw (head_known a.kind a.hits (length a.out.now) (omega arith) c.if-kind-gt4.false) (
    text_out a.out.now (kind= ++ kind_name a.kind ++ hits= ++ decimal a.hits) c.clear.ensures
    (writes_named hits= (decimal a.hits) (writes_then c.put-a.ensures c.put_kind-b.ensures) c.put_named-c.ensures)
    c.end_line.ensures)
