-- `place_all` meets its contract: after i codes the lent words hold the table of the first i codes.
-- Assumes nothing.
use mathlib.Core.Path.{◌≡◌}
use mathlib.Core.List.{List}
use Prim.Native.Nat.{◌-◌, ◌≤◌}
use lib.ListN.{length}
use Rattle.dalvik.specs.CodeItem.{Code}
use Rattle.code_table.specs.Slots.{base_of, top_of}
use Rattle.code_table.specs.Steps.{Triples, slot_words, Holds}
use Rattle.code_table.proofs.Slots.{up_to}
use Rattle.code_table.proofs.place_all.Given as goal

abbrev pub invariant-loop-i : goal.invariant-loop-i
invariant-loop-i l = (length l.slots ≡ length l.initial.slots) × (length l.shares ≡ length l.initial.shares)
    × ((cs : List Code) → Triples l.triples l.n cs → l.base ≡ base_of cs → top_of cs - l.base ≤ length l.initial.slots
    → Holds (length l.initial.slots) (length l.initial.shares) (up_to cs l.i) (slot_words l.slots l.shares) l.used)
