-- `line_at` answers what the definition does: lists that do not hold the entry are refused, and else the line is made and the words are
-- cleared. Assumes nothing.
use mathlib.Core.Bool.{not}
use mathlib.Core.Path.{ap}
use lib.ListN.{length}
use native.Mathlib.Omega.{arith}
use Rattle.words.proofs.Padded.{cleared_again}
use Rattle.refusal.specs.declared.Refusal.TheVariants.{LentTable}
use Rattle.entry_lines.specs.Gives.{entries}
use Rattle.entry_lines.proofs.LineLaws.{unlike, likewise, alike_marks, alike_answers, line_unlike, line_past, line_held, line_refusal}
use Rattle.entry_lines.proofs.line_at.Goals as goal
use Rattle.entry_lines.proofs.line_at.Goals.{then-not-alike-via-then-not-alike, then-not-alike-via-else-not-alike+then-lists-i}

pub returns-then-not-alike : goal.returns-then-not-alike
returns-then-not-alike c = record {
  gives = line_refusal _ LentTable _ _ _
      (elim c.then-not-alike.branch [
        | then-not-alike-via-then-not-alike w ↦ line_unlike _ _ _ _ (unlike (ap not w.if-not-alike.true) c.alike.ensures)
        | then-not-alike-via-else-not-alike+then-lists-i w ↦ line_past _ _ _ _ (likewise (ap not w.if-not-alike.false) c.alike.ensures) w.if-lists-i.true
      ])
      c.refuse.ensures.gives;
}

pub bounds-lists-i-2 : goal.bounds-lists-i-2
bounds-lists-i-2 c =
    omega (arith, alike_marks _ _ _ (likewise (ap not c.if-not-alike.false) c.alike.ensures))

pub bounds-lists-i-3 : goal.bounds-lists-i-3
bounds-lists-i-3 c =
    omega (arith, alike_answers _ _ _ (likewise (ap not c.if-not-alike.false) c.alike.ensures))

pub returns : goal.returns
returns c = record {
  gives = let a = c.args in
      let E = entries a.lists in
      record {
        line =
            rw (line_held E (length a.mids.now) (length a.text.now) a.i (likewise (ap not c.if-not-alike.false) c.alike.ensures)
            (omega (arith, c.if-lists-i.false)))
            c.line-answer.ensures.gives;
        cleared =
            cleared_again c.line-answer.new.mids a.mids.now _ (omega (arith, c.line-answer.auto.mids))
            c.clear.ensures;
      };
}
