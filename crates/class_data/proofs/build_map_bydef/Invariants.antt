-- `build_map_bydef` meets its contract: a definition walked leaves those after it, and adds at most as many codes as the file has bytes.
-- Assumes nothing.
use Prim.Native.Nat.{◌-◌}
use Rattle.class_data.proofs.Items.{ByDef}
use Rattle.class_data.specs.Stored.{code_words}
use Rattle.class_data.specs.Steps.{kept}
use Rattle.class_data.proofs.Kept.{turn}
use Rattle.class_data.proofs.build_map_bydef.Given as goal

abbrev pub invariant-loop : goal.invariant-loop
invariant-loop l =
    ByDef l.buf l.methods (turn l.fn.classes.size l.fn.classes.off (kept 0 (code_words l.initial.triples l.initial.starts)))
    (turn (l.fn.classes.size - l.counter) l.at (kept l.count (code_words l.triples l.starts)))
