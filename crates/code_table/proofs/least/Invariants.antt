-- `least` meets its contract: after i codes the word is the least of their first buckets, and the rest lowers it to that of all.
-- Assumes nothing.
use mathlib.Core.Path.{◌≡◌}
use mathlib.Core.List.{List}
use lib.ListN.{drop}
use Rattle.dalvik.specs.CodeItem.{Code}
use Rattle.code_table.specs.Slots.{lowest, base_of}
use Rattle.code_table.specs.Steps.{Triples}
use Rattle.code_table.proofs.least.Given as goal

abbrev pub invariant-loop-i : goal.invariant-loop-i
invariant-loop-i l = (cs : List Code) → Triples l.triples l.n cs → lowest l.r (drop l.i cs) ≡ base_of cs
