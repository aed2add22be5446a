-- `string_data::text_start` meets its contract: the loop keeps the text after the length bytes left equal to that after all five.
-- Assumes nothing.
use Prim.Native.Nat.{◌+◌, ◌-◌, ◌<◌, ◌≤◌}
use mathlib.Core.Path.{◌≡◌}
use lib.ListN.{length}
use Rattle.string_data.specs.Text.{after_length}
use Rattle.string_data.proofs.text_start.Given as goal

abbrev pub invariant-loop-i : goal.invariant-loop-i
invariant-loop-i l = record {
  inside : 0 < l.i → l.offset + l.i ≤ length l.file;
  rest : after_length (5 - l.i) l.file (l.offset + l.i) ≡ after_length 5 l.file l.offset;
}
