-- The answers stored and those of the entries left make up the whole, at every turn; onward the entries left do not fall, and the words are ready for
-- them.
-- Assumes nothing.
use Rattle.insn_locator.proofs.Entries.{rest}
use Rattle.insn_locator.specs.Answers.{tables}
use Rattle.insn_locator.specs.Steps.{Onward, stored}
use Rattle.insn_locator.specs.Locate.{locate_from}
use lib.ListN.{length, drop}
use mathlib.Core.Path.{◌≡◌}
use mathlib.Core.Bool.{true}
use Rattle.insn_locator.proofs.locate_list.Given as goal

abbrev pub invariant-loop-i : goal.invariant-loop-i
invariant-loop-i l = (stored l.answers l.i (rest l.buf (tables l.lent.base l.lent.slots.now l.lent.starts.now l.lent.shares.now) l.entries l.i l.last) ≡ stored l.initial.answers 0
    (locate_from l.buf (tables l.lent.base l.lent.slots.now l.lent.starts.now l.lent.shares.now) l.initial.last l.entries))
    × (length l.last ≡ length l.initial.last) × (length l.answers ≡ length l.initial.answers)
    × (l.onward ≡ true → Onward l.buf (tables l.lent.base l.lent.slots.now l.lent.starts.now l.lent.shares.now) l.last (drop l.i l.entries))
