-- `greatest` meets its contract: after i codes the word is one more than the greatest of their last buckets, and the rest raises it to that of all.
-- Assumes nothing.
use mathlib.Core.Path.{◌≡◌}
use mathlib.Core.List.{List}
use Prim.Native.Nat.{max}
use lib.ListN.{drop}
use Rattle.dalvik.specs.CodeItem.{Code}
use Rattle.code_table.specs.Slots.{top_of}
use Rattle.code_table.specs.Steps.{Triples}
use Rattle.code_table.proofs.greatest.Given as goal

abbrev pub invariant-loop-i : goal.invariant-loop-i
invariant-loop-i l = (cs : List Code) → Triples l.triples l.n cs → max l.r (top_of (drop l.i cs)) ≡ top_of cs
