-- `build_map_bymap` meets its contract: an item walked leaves the items after it, and adds at most as many codes as the file has bytes.
-- Assumes nothing.
use Prim.Native.Nat.{◌+◌, ◌-◌}
use Rattle.dalvik.specs.Numbers.{le32}
use Rattle.class_data.proofs.Items.{ByMap}
use Rattle.class_data.specs.Stored.{code_words}
use Rattle.class_data.specs.Steps.{kept}
use Rattle.class_data.proofs.Kept.{turn}
use Rattle.class_data.proofs.build_map_bymap.Given as goal

abbrev pub invariant-loop : goal.invariant-loop
invariant-loop l =
    ByMap l.buf l.methods
    (turn (le32 l.buf (l.entry + 4)) (le32 l.buf (l.entry + 8)) (kept 0 (code_words l.initial.triples l.initial.starts)))
    (turn (l.size - l.counter) l.at.next (kept l.at.count (code_words l.triples l.starts)))
