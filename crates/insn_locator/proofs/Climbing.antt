-- Laws of a list that does not fall: it climbs by one entry at a time, and so each entry is at least as large as all before it.
-- Assumes nothing.
use Prim.Native.Nat.{ℕ, suc, ◌≤◌, ◌<◌}
use native.Mathlib.Omega.{arith}
use mathlib.Core.Path.{◌≡◌, refl}
use mathlib.Core.Bool.{Bool, true, false}
use mathlib.Core.List.{List, [], ◌∷◌}
use lib.Dec.{leb}
use lib.ListN.{length, get_or}
use borrow.Author.Tests.{le-leb, leb-true}
use Rattle.std.specs.Prelude.{Some}
use Rattle.std.specs.List.{IsAllAdjacentAnswer}
use Rattle.std.specs.Ordering.{is_some_and, is_le, nat_cmp}
use Rattle.std.proofs.lemmas.List.Sorted.{non_decreasing_from_is_sorted}
use Rattle.words.proofs.Shared.{and_left, and_right}
use Rattle.insn_locator.specs.Alone.{Nondecreasing}
use Rattle.insn_locator.specs.Steps.{climbs}

-- ---- the first entry

module _ (b t : ℕ) (ts : List ℕ) (e : climbs b (t ∷ ts) ≡ true) where
  pub first_climbs : b ≤ t
  unfolding climbs
  first_climbs = leb-true b t (and_left (leb b t) (climbs t ts) e)

  pub rest_climbs : climbs t ts ≡ true
  unfolding climbs
  rest_climbs = and_right (leb b t) (climbs t ts) e

-- ---- in the words of the promise

later_falls : (t : ℕ) (ts : List ℕ) → Nondecreasing (t ∷ ts) → Nondecreasing ts
later_falls t ts N i j h l = N (suc i) (suc j) (omega arith) (omega arith)

pub climbs_from : (b : ℕ) (ts : List ℕ) → ((i : ℕ) → i < length ts → b ≤ get_or ts i 0) → Nondecreasing ts → climbs b ts ≡ true
unfolding climbs
climbs_from b [] F N = refl
climbs_from b (t ∷ ts) F N =
    rw (le-leb b t (F 0 (omega arith))) (climbs_from t ts (λ i h. N 0 (suc i) (omega arith) (omega arith)) (later_falls t ts N))

pub climbs_all : (ts : List ℕ) → Nondecreasing ts → climbs 0 ts ≡ true
climbs_all ts N = climbs_from 0 ts (λ i h. omega arith) N

-- ---- a list that is found to be sorted

pub climbs_sorted : (ts : List ℕ) (r : Bool) → IsAllAdjacentAnswer (λ x y b. is_some_and is_le (Some (nat_cmp x y)) ≡ b) ts r → r ≡ true
    → climbs 0 ts ≡ true
climbs_sorted ts true h e = climbs_all ts (λ i j a l. non_decreasing_from_is_sorted ts true h i j 0 (omega arith) l)
climbs_sorted ts false h e = absurd (let z : ◌≡◌ {A = ℕ} 0 1 = cc in omega arith)
