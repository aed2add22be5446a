-- The faults that the searches share, a law for each way out.
-- Assumes nothing.
use Prim.Native.Nat.{ℕ, ◌≤◌, ◌<◌}
use mathlib.Core.Path.{◌≡◌}
use mathlib.Core.Bool.{true, false}
use mathlib.Core.Logic.{◌⊎◌, ⊎_elim}
use mathlib.Core.List.{List}
use lib.Dec.{ltb}
use native.Mathlib.Omega.{arith}
use borrow.Author.Tests.{lt-ltb, le-ltb, ltb-false}
use Rattle.words.proofs.Shared.{case, or_right}
use Rattle.word_set.proofs.Sets.{below_or_not}
use Rattle.refusal.specs.Refusals.{is_too_large, largest_file}
use Rattle.string_search.specs.Keys.{good_keys}
use Rattle.string_search.specs.Search.{search_fault}

module _ (len shortest n : ℕ) (ks : List ℕ) where
  pub fault_large : is_too_large len ≡ true → 1 ≡ search_fault len shortest n ks
  unfolding search_fault
  fault_large l = rw l

  module _ (l : is_too_large len ≡ false) where
    pub fault_short : n < shortest → 9 ≡ search_fault len shortest n ks
    unfolding search_fault
    fault_short h = rw (l, lt-ltb _ _ h)

    pub fault_long : 255 < n → 9 ≡ search_fault len shortest n ks
    unfolding search_fault
    fault_long h = rw (l, or_right (ltb n shortest) (ltb 255 n) (lt-ltb _ _ h))

    -- the tests of the query in one: it is too short, or it isn't and is too long
    pub fault_query : (n < shortest) ⊎ ((shortest ≤ n) × (255 < n)) → 9 ≡ search_fault len shortest n ks
    fault_query h = ⊎_elim fault_short (λ (b : (shortest ≤ n) × (255 < n)). fault_long b.1) h

    pub fault_keys : shortest ≤ n → n ≤ 255 → good_keys ks ≡ false → 15 ≡ search_fault len shortest n ks
    unfolding search_fault
    fault_keys h k g = rw (l, le-ltb _ _ h, le-ltb _ _ k, g)

    pub fault_none : shortest ≤ n → n ≤ 255 → good_keys ks ≡ true → 0 ≡ search_fault len shortest n ks
    unfolding search_fault
    fault_none h k g = rw (l, le-ltb _ _ h, le-ltb _ _ k, g)

-- no fault: what that says
pub record Sound (len shortest n : ℕ) (ks : List ℕ) : Type 0 where
  pub small : len ≤ largest_file
  pub least : shortest ≤ n
  pub short : n ≤ 255
  pub good : good_keys ks ≡ true

pub no_fault : (len shortest n : ℕ) (ks : List ℕ) → 0 ≡ search_fault len shortest n ks → Sound len shortest n ks
no_fault len shortest n ks e =
    ⊎_elim (λ (l : is_too_large len ≡ true). absurd (let f = fault_large len shortest n ks l in let z : ◌≡◌ {A = ℕ} 0 1 = cc in omega arith))
    (λ (l : is_too_large len ≡ false). ⊎_elim
    (λ (h : n < shortest). absurd (let f = fault_short len shortest n ks l h in let z : ◌≡◌ {A = ℕ} 0 9 = cc in omega arith))
    (λ (h : shortest ≤ n). ⊎_elim (λ (k : 255 < n). absurd (let f = fault_long len shortest n ks l k in let z : ◌≡◌ {A = ℕ} 0 9 = cc in omega arith))
    (λ (k : n ≤ 255). ⊎_elim (λ (g : good_keys ks ≡ true). record { small = ltb-false largest_file len l; least = h; short = k; good = g })
    (λ (g : good_keys ks ≡ false). absurd (let f = fault_keys len shortest n ks l h k g in let z : ◌≡◌ {A = ℕ} 0 15 = cc in omega arith))
    (case (good_keys ks)))
    (below_or_not 255 n))
    (below_or_not n shortest))
    (case (is_too_large len))
