-- Where a group stands, a law for each way out of `group_span`: each test of the definition is one of the code.
-- Assumes nothing.
use Prim.Native.Nat.{ℕ, ◌+◌, ◌-◌, ◌<◌, ◌≤◌}
use native.Mathlib.Omega.{arith}
use mathlib.Core.List.{List}
use lib.ListN.{length, get_or}
use borrow.Author.Tests.{lt-ltb, le-ltb, le-leb, lt-leb}
use Rattle.groups.proofs.Slices as s
use Rattle.c_answers.specs.Group.{bounded, start_of, GroupAt}

module _ (offs ids : List ℕ) (k : ℕ) where
  pub no_key : length offs ≤ k + 1 → GroupAt offs ids k 0 0
  unfolding start_of bounded
  no_key h = record { first = simp (le-ltb _ _ h); inside = omega arith; stretch = s.no_key offs ids k h }

  pub backward : k + 1 < length offs → get_or offs (k + 1) 0 < get_or offs k 0 → GroupAt offs ids k 0 0
  unfolding start_of bounded
  backward h b = record { first = simp (lt-ltb _ _ h, lt-leb _ _ b); inside = omega arith; stretch = s.backward offs ids k h b }

  pub past : k + 1 < length offs → get_or offs k 0 ≤ get_or offs (k + 1) 0 → length ids < get_or offs (k + 1) 0 → GroupAt offs ids k 0 0
  unfolding start_of bounded
  past h b e = record {
    first = simp (lt-ltb _ _ h, le-leb _ _ b, lt-leb _ _ e);
    inside = omega arith;
    stretch = s.past offs ids k h b e;
  }

  pub fits : k + 1 < length offs → get_or offs k 0 ≤ get_or offs (k + 1) 0 → get_or offs (k + 1) 0 ≤ length ids
      → GroupAt offs ids k (get_or offs k 0) (get_or offs (k + 1) 0 - get_or offs k 0)
  unfolding start_of bounded
  fits h b e = record {
    first = simp (lt-ltb _ _ h, le-leb _ _ b, le-leb _ _ e);
    inside = omega arith;
    stretch = s.fits offs ids k h b e;
  }
