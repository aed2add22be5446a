-- The set and what stands outside it are those of the words passed.
-- Assumes nothing.
use mathlib.Core.Path.{◌≡◌}
use lib.ListN.{length, take}
use Rattle.code_item_scan.specs.Steps.{WantedOf}
use Rattle.code_item_scan.proofs.wanted.wanted_of.Given as goal

abbrev pub invariant-loop-word : goal.invariant-loop-word
invariant-loop-word l = WantedOf (take l.word-index l.wanted) l.bits l.others × (length l.bits ≡ length l.initial.bits)
