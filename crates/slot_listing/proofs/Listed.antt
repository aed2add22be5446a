-- Laws of the operation: which list a slot word has, and the refusals in their order.
-- Assumes nothing.
use Rattle.std.specs.Prelude.{None, Some}
use mathlib.Core.Path.{◌≡◌}
use mathlib.Core.List.{List, [], ◌∷◌}
use Prim.Native.Nat.{ℕ, ◌-◌, ◌≤◌, ◌<◌}
use native.Mathlib.Omega.{arith}
use lib.ListN.{length}
use borrow.Author.Tests.{lt-ltb, le-ltb, le-leb, lt-leb, eq-eqb, ne_eqb}
use Rattle.refusal.specs.Outcomes.{refused, success}
use Rattle.code_table.specs.Slots.{shared}
use Rattle.slot_listing.specs.Listing.{listed, list_out}
use Rattle.slot_listing.specs.Steps.{methods_of}

module _ (ws : List ℕ) (v : ℕ) where
  pub listed_free : v ≡ 0 → listed ws v ≡ Some []
  unfolding listed
  listed_free e = rw (eq-eqb v 0 e)

  pub listed_single : 0 < v → v < shared → listed ws v ≡ Some ((v - 1) ∷ [])
  unfolding listed
  listed_single z h = rw (ne_eqb v 0 (λ e. omega arith), lt-ltb v shared h)

  pub listed_share : shared ≤ v → listed ws v ≡ methods_of ws (v - shared)
  unfolding listed methods_of
  listed_share h = rw (ne_eqb v 0 (λ e. omega arith), le-ltb v shared h)

module _ (ws : List ℕ) (v room : ℕ) where
  pub list_fault : listed ws v ≡ None → list_out ws v room ≡ refused 15
  unfolding list_out
  list_fault e = rw e

  module _ (l : List ℕ) (lists : listed ws v ≡ Some l) where
    pub list_short : room < length l → list_out ws v room ≡ refused 4
    unfolding list_out
    list_short h = rw (lists, lt-leb (length l) room h)

    pub list_done : length l ≤ room → list_out ws v room ≡ success l
    unfolding list_out
    list_done h = rw (lists, le-leb (length l) room h)
