-- Each word that was passed has left a 1 in the table, if it has two bytes.
-- Assumes nothing.
use mathlib.Core.Path.{◌≡◌}
use Prim.Native.Nat.{ℕ, ◌<◌}
use lib.ListN.{length, get_or, take}
use Rattle.code_item_scan.specs.Scan.{is_in}
use Rattle.code_item_scan.specs.Next.{index_count}
use Rattle.code_item_scan.specs.Steps.{bit}
use Rattle.code_item_scan.proofs.wanted.table_of.Given as goal

abbrev pub invariant-loop-word : goal.invariant-loop-word
invariant-loop-word l = (length l.table ≡ index_count) × ((y : ℕ) → y < index_count → get_or l.table y 0 ≡ bit (is_in y (take l.word-index l.wanted)))
