-- A scan of a region that lies in the file is never refused 12: its test passes, and no other way out has that number.
-- Assumes nothing.
use Rattle.std.specs.Prelude.{Option, None, Some}
use Prim.Native.Nat.{ℕ, ◌≤◌}
use native.Mathlib.Omega.{arith}
use mathlib.Core.Logic.{◌≢◌}
use mathlib.Core.Bool.{◌&&◌}
use mathlib.Core.List.{List}
use lib.ListN.{length}
use lib.Dec.{leb}
use borrow.Author.Tests.{le-leb}
use Rattle.words.proofs.Shared.{cond_elim}
use Rattle.refusal.specs.Refusals.{is_too_large}
use Rattle.dalvik.specs.Instructions.{Kind}
use Rattle.kinds.specs.Kinds.{kind_of}
use Rattle.code_item_scan.specs.Scan.{hits_of, Asked, HitRoom, Scan, no_scan, scanned_as, scan_out}

module _ (s : List ℕ) (A : Asked) (R : HitRoom) (rises : A.from ≤ A.to) (inside : A.to ≤ length s) where
  by_kind : (k : Option Kind) → (scanned_as s A R k).number ≢ 12
  by_kind None = λ q. omega arith
  by_kind (Some kind) =
      let n : ℕ = length (hits_of s kind A.wanted A.from A.to) in
      rw (le-leb A.from A.to rises, le-leb A.to (length s) inside)
      (cond_elim (λ (S : Scan). S.number ≢ 12) (leb n R.offs && leb n R.marks) _ (no_scan 4) (λ _ q. omega arith) (λ _ q. omega arith))

  pub scan_never_12 : (scan_out s A R).number ≢ 12
  unfolding scan_out
  scan_never_12 = cond_elim (λ (S : Scan). S.number ≢ 12) (is_too_large (length s)) (no_scan 1) _ (λ _ q. omega arith) (λ _. by_kind (kind_of A.kind))
