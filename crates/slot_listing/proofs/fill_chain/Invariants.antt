-- The words written from the end and the list of the share that is left make up the list.
-- Assumes nothing.
use Rattle.std.specs.Prelude.{Some}
use mathlib.Core.Path.{◌≡◌}
use mathlib.Core.List.{List, ◌++◌}
use Prim.Native.Nat.{ℕ, ◌/◌, ◌≤◌, ◌<◌}
use lib.ListN.{length, drop}
use Rattle.code_table.specs.Slots.{share_at}
use Rattle.slot_listing.specs.Steps.{methods_of, list_by}
use Rattle.slot_listing.proofs.fill_chain.Given as goal

-- where the loop stands: the words, the share that it has come to, and how many words are left to write
pub record Place : Type 0 where
  pub out : List ℕ
  pub at : ℕ
  pub left : ℕ

abbrev pub place : List ℕ → ℕ → ℕ → Place
place out at left = record { out = out; at = at; left = left }

-- the list of the share goes into the words that are left, and the words after them are as they should be
pub record Left (ws : List ℕ) (k n : ℕ) (out₀ : List ℕ) (p : Place) : Type 0 where
  pub has : methods_of ws p.at ≡ Some (list_by (methods_of ws p.at))
  pub count : length (list_by (methods_of ws p.at)) ≡ p.left
  pub whole : list_by (methods_of ws p.at) ++ drop p.left p.out ≡ list_by (methods_of ws k) ++ drop n out₀
  pub two : 2 ≤ p.left
  pub fewer : p.left ≤ n
  pub long : length p.out ≡ length out₀
  pub inside : p.at < length ws / 3
  pub back : 2 < p.left → (0 < share_at ws p.at 2) × (share_at ws p.at 2 ≤ p.at)

abbrev pub invariant-loop-i : goal.invariant-loop-i
invariant-loop-i l = Left l.shares l.k l.n l.initial.methods (place l.methods l.at l.i)
