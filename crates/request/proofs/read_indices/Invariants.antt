-- `request::read_indices` meets its contract: what is stored, and what is still to be read from here, are the whole list, of at most 16.
-- Assumes nothing.
use Rattle.std.proofs.Common.{◌≡◌, ◌-◌}
use Rattle.request.specs.Request.{indices_at}
use Rattle.request.specs.Steps.{stored}
use Rattle.request.proofs.read_indices.Given as goal

abbrev pub invariant-loop-n : goal.invariant-loop-n
invariant-loop-n l = stored l.n l.wanted (indices_at (16 - l.n) l.text l.i) ≡ stored 0 l.initial.wanted (indices_at 16 l.text l.at)
