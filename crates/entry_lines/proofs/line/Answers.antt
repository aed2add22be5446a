-- `entry_lines::line` meets its contract: a listing that is refused refuses the line; otherwise the methods are the first words
-- lent, and the line is their text.
-- Assumes nothing.
use mathlib.Core.Path.{sym}
use lib.Seq.{length-take-le}
use Rattle.entry_lines.specs.Line.{line_out}
use Rattle.entry_lines.proofs.LineLaws.{gives_as, done_fits, line_done, line_refused}
use Rattle.entry_lines.proofs.line.Goals as goal

pub slice_bounds-entry-end : goal.slice_bounds-entry-end
slice_bounds-entry-end c =
    done_fits _ _ c.list_slot.new.methods _ (gives_as c.in-Ok.is c.list_slot.ensures.gives)

pub slice_bounds-entry-end-in-Ok : goal.slice_bounds-entry-end-in-Ok
slice_bounds-entry-end-in-Ok c =
    sym (length-take-le _ _
    (done_fits _ _ c.list_slot.new.methods _ (gives_as c.in-Ok.is c.list_slot.ensures.gives)))

pub returns-in-Err : goal.returns-in-Err
unfolding line_out
returns-in-Err c = record {
  gives = let a = c.args in
      line_refused _ _ c.list_slot.new.methods a.off a.idx _ _ a.text.now _
      (gives_as c.in-Err.is c.list_slot.ensures.gives) c.clear.ensures;
}

pub returns-in-Ok : goal.returns-in-Ok
unfolding line_out
returns-in-Ok c = record {
  gives = let a = c.args in
      line_done _ _ c.list_slot.new.methods a.off a.idx _ _ _ a.text.now _
      (gives_as c.in-Ok.is c.list_slot.ensures.gives) c.entry.ensures;
}
