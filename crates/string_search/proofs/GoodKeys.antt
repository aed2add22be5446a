-- A list of keys passes the test where each key is above all before it.
--     good_end, good_low, good_last, good_next    one turn of the test
--     good_rising, good_index, good_keys          what it says
-- Assumes nothing.
use Prim.Native.Nat.{ℕ, zero, suc, ◌+◌, ◌≤◌, ◌<◌}
use mathlib.Core.Path.{◌≡◌, refl}
use mathlib.Core.Bool.{true, false, ◌&&◌}
use mathlib.Core.List.{List, [], ◌∷◌}
use lib.ListN.{length, get_or, drop, drop_of_length-le}
use lib.Seq.{drop-cons}
use lib.Dec.{leb, ltb}
use native.Mathlib.Omega.{arith}
use native.Mathlib.Numerals.{add-one}
use borrow.Author.Tests.{lt-ltb, le-ltb, le-leb, lt-leb, ltb-true, leb-true}
use Rattle.words.proofs.Shared.{and_left, and_right}
use Rattle.words.specs.Rising.{Rising}
use Rattle.string_search.specs.Keys.{key_index, good_from}

-- one turn of the test
module _ (ks : List ℕ) (b i : ℕ) where
  pub good_end : length ks ≤ i → good_from b (drop i ks) ≡ true
  unfolding good_from
  good_end h = rw (drop_of_length-le ks h)

  module _ (h : i < length ks) where
    pub good_low : get_or ks i 0 < b → good_from b (drop i ks) ≡ false
    unfolding good_from
    good_low l = rw (drop-cons ks i 0 h, lt-leb _ _ l)

    pub good_last : b ≤ get_or ks i 0 → key_index (get_or ks i 0) ≡ 4294967295 → good_from b (drop i ks) ≡ false
    unfolding good_from
    good_last l e =
        let q : ltb (key_index (get_or ks i 0)) 4294967295 ≡ false = le-ltb (key_index (get_or ks i 0)) 4294967295 (omega arith) in
        rw (drop-cons ks i 0 h, le-leb _ _ l, q)

    pub good_next : b ≤ get_or ks i 0 → (key_index (get_or ks i 0) ≡ 4294967295 → ⊥)
        → good_from b (drop i ks) ≡ good_from (get_or ks i 0 + 1) (drop (i + 1) ks)
    unfolding good_from
    good_next l n =
        let q : ltb (key_index (get_or ks i 0)) 4294967295 ≡ true = lt-ltb (key_index (get_or ks i 0)) 4294967295 (omega arith) in
        rw (drop-cons ks i 0 h, le-leb _ _ l, q, add-one i)

-- what the test says: none is below b, and each is above those before it
good_head : (b k : ℕ) (ks : List ℕ) → good_from b (k ∷ ks) ≡ true → b ≤ k
unfolding good_from
good_head b k ks e = leb-true b k (and_left (leb b k) (ltb (key_index k) 4294967295 && good_from (k + 1) ks) e)

good_mark : (b k : ℕ) (ks : List ℕ) → good_from b (k ∷ ks) ≡ true → key_index k < 4294967295
unfolding good_from
good_mark b k ks e =
    ltb-true (key_index k) 4294967295
    (and_left (ltb (key_index k) 4294967295) (good_from (k + 1) ks) (and_right (leb b k) (ltb (key_index k) 4294967295 && good_from (k + 1) ks) e))

good_tail : (b k : ℕ) (ks : List ℕ) → good_from b (k ∷ ks) ≡ true → good_from (k + 1) ks ≡ true
unfolding good_from
good_tail b k ks e =
    and_right (ltb (key_index k) 4294967295) (good_from (k + 1) ks) (and_right (leb b k) (ltb (key_index k) 4294967295 && good_from (k + 1) ks) e)

good_above : (b : ℕ) (ks : List ℕ) → good_from b ks ≡ true → (i : ℕ) → i < length ks → b ≤ get_or ks i 0
good_above b [] e i h = absurd (omega arith)
good_above b (k ∷ ks) e zero h = good_head b k ks e
good_above b (k ∷ ks) e (suc i) h = omega (arith, good_head b k ks e, good_above (k + 1) ks (good_tail b k ks e) i (omega arith))

pub good_rising : (b : ℕ) (ks : List ℕ) → good_from b ks ≡ true → Rising ks
good_rising b [] e i j l h = absurd (omega arith)
good_rising b (k ∷ ks) e zero zero l h = absurd (omega arith)
good_rising b (k ∷ ks) e zero (suc j) l h = omega (arith, good_above (k + 1) ks (good_tail b k ks e) j (omega arith))
good_rising b (k ∷ ks) e (suc i) zero l h = absurd (omega arith)
good_rising b (k ∷ ks) e (suc i) (suc j) l h = good_rising (k + 1) ks (good_tail b k ks e) i j (omega arith) (omega arith)

pub good_index : (b : ℕ) (ks : List ℕ) → good_from b ks ≡ true → (i : ℕ) → i < length ks → key_index (get_or ks i 0) < 4294967295
good_index b [] e i h = absurd (omega arith)
good_index b (k ∷ ks) e zero h = good_mark b k ks e
good_index b (k ∷ ks) e (suc i) h = good_index (k + 1) ks (good_tail b k ks e) i (omega arith)

-- .. and all such lists pass it
pub good_keys : (b : ℕ) (ks : List ℕ) → (0 < length ks → b ≤ get_or ks 0 0) → Rising ks
    → ((i : ℕ) → i < length ks → key_index (get_or ks i 0) < 4294967295) → good_from b ks ≡ true
unfolding good_from
good_keys b [] f r m = refl
good_keys b (k ∷ ks) f r m =
    let rest : good_from (k + 1) ks ≡ true =
    good_keys (k + 1) ks (λ h. omega (arith, r 0 1 (omega arith) (omega arith))) (λ i j l h. r (suc i) (suc j) (omega arith) (omega arith))
    (λ i h. m (suc i) (omega arith)) in
    rw (le-leb b k (f (omega arith)), lt-ltb (key_index k) 4294967295 (m 0 (omega arith)), rest)
