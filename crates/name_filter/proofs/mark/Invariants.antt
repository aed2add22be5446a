-- `name_filter::mark` meets its contract: an index that was passed has no fault, and is seen. Assumes nothing.
use Rattle.name_filter.proofs.Marks.{bits, Passed}
use Rattle.name_filter.specs.Steps.{names_of}
use Rattle.name_filter.proofs.mark.Given as goal

abbrev pub invariant-loop-index : goal.invariant-loop-index
invariant-loop-index l =
    Passed (names_of l.asked) l.asked.count l.asked.given.now (bits l.initial.seen l.initial.has) (bits l.seen l.has) l.index-index
