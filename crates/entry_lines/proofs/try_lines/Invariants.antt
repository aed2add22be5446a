-- The first refusal among all lines is the first among those still to be tried, as long as none was refused. Assumes nothing.
use Rattle.entry_lines.specs.Line.{line_at, first_refused}
use Rattle.entry_lines.specs.Gives.{entries}
use Rattle.std.proofs.Common.{◌≡◌, ◌-◌, length}
use Rattle.entry_lines.proofs.try_lines.Given as goal

abbrev pub invariant-loop-i : goal.invariant-loop-i
invariant-loop-i l =
    let f = line_at (entries l.lists) (length l.initial.mids) (length l.initial.text) in
    let n = length l.lists.offs.now in
    first_refused f (n - l.i) l.i ≡ first_refused f n 0
