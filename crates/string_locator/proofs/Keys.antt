-- The keys of a map are strictly rising, and are exactly those of its strings, one for each: a key's low 32 bits are its index, so
-- that no two are equal. Every data offset lies between the least and the greatest.
-- Assumes nothing.
use Prim.Native.Nat.{ℕ, zero, suc, ◌+◌, ◌^◌, ◌<◌, ◌≤◌}
use native.Mathlib.Omega.{arith}
use native.Mathlib.Nat.{eq-or-lt_of_le}
use mathlib.Core.Path.{◌≡◌, refl, sym, ap, ◌∙◌}
use mathlib.Core.Logic.{◌⊎◌, inl, inr, ⊎_elim}
use mathlib.Core.List.{List, [], ◌∷◌}
use Rattle.dalvik.specs.Ids.{string_data_off}
use Rattle.words.specs.Rising.{Rising}
use Rattle.sort_keys.specs.Sorted.{sorted}
use Rattle.sort_keys.proofs.Keys.{count, once}
use Rattle.sort_keys.proofs.Counts.{same?, below?, once_same, once_other, count_append}
use Rattle.sort_keys.proofs.Sorted.{sorted_same, sorted_rising}
use Rattle.string_locator.specs.Map.{key_of, keys_of, least, greatest}

-- the last of n + 1, or one before it
last? : (i n : ℕ) → i < suc n → (i ≡ n) ⊎ (i < n)
last? i n p = ⊎_elim (λ l. inr l) (λ l. inl (omega arith)) (below? i n)

module _ (s : List ℕ) (table : ℕ) where
  -- one string more
  count_more : (x n : ℕ) → count x (keys_of s table (suc n)) ≡ count x (keys_of s table n) + once x (key_of s table n)
  unfolding keys_of count
  count_more x n = count_append x (keys_of s table n) (key_of s table n ∷ []) ∙ omega arith

  count_none : (x : ℕ) → count x (keys_of s table 0) ≡ 0
  unfolding keys_of count
  count_none x = refl

  -- x is the key of one of the first n strings
  pub record KeyOf (n x : ℕ) : Type 0 where
    pub index : ℕ
    pub below : index < n
    pub is : x ≡ key_of s table index

  key_found : (x n : ℕ) → 0 < count x (keys_of s table n) → KeyOf n x
  key_found x zero h = absurd (omega (arith, count_none x))
  key_found x (suc n) h =
      ⊎_elim (λ e. record { index = n; below = omega arith; is = e })
      (λ d.
      let k = key_found x n (omega (arith, count_more x n, once_other x (key_of s table n) d)) in
      record { index = k.index; below = omega (arith, k.below); is = k.is })
      (same? x (key_of s table n))

  -- two strings below 2 ^ 32 have two keys
  key_index : (i j : ℕ) → i < 2 ^ 32 → j < 2 ^ 32 → key_of s table i ≡ key_of s table j → i ≡ j
  key_index i j p q e = omega (arith, e)

  not_yet : (n : ℕ) → n < 2 ^ 32 → count (key_of s table n) (keys_of s table n) ≡ 0
  not_yet n p =
      ⊎_elim (λ e. sym e)
      (λ l.
      let k = key_found (key_of s table n) n l in
      absurd (omega (arith, k.below, key_index n k.index p (omega (arith, k.below)) k.is)))
      (eq-or-lt_of_le {n = 0} (omega arith))

  at_most_once : (n : ℕ) → n ≤ 2 ^ 32 → (x : ℕ) → count x (keys_of s table n) ≤ 1
  at_most_once zero p x = omega (arith, count_none x)
  at_most_once (suc n) p x =
      ⊎_elim
      (λ e.
      let z = ap (λ (k : ℕ). count k (keys_of s table n)) e ∙ not_yet n (omega arith) in
      let o = ap (once x) (sym e) ∙ once_same x in
      omega (arith, count_more x n, z, o))
      (λ d. omega (arith, count_more x n, once_other x (key_of s table n) d, at_most_once n (omega arith) x))
      (same? x (key_of s table n))

  at_least_once : (n i : ℕ) → i < n → 1 ≤ count (key_of s table i) (keys_of s table n)
  at_least_once zero i p = absurd (omega arith)
  at_least_once (suc n) i p =
      ⊎_elim
      (λ e. omega (arith, count_more (key_of s table i) n, ap (once (key_of s table i)) (ap (key_of s table) (sym e)), once_same (key_of s table i)))
      (λ l. omega (arith, count_more (key_of s table i) n, at_least_once n i l))
      (last? i n p)

  -- strictly rising
  pub map_rising : (n : ℕ) → n ≤ 2 ^ 32 → Rising (sorted (keys_of s table n))
  map_rising n p = sorted_rising (keys_of s table n) (at_most_once n p)

  -- the key of each string, once
  pub map_has : (n : ℕ) → n ≤ 2 ^ 32 → (i : ℕ) → i < n → count (key_of s table i) (sorted (keys_of s table n)) ≡ 1
  map_has n p i h =
      omega (arith, sorted_same (keys_of s table n) (key_of s table i), at_most_once n p (key_of s table i), at_least_once n i h)

  -- and no other
  pub map_only : (n x : ℕ) → 0 < count x (sorted (keys_of s table n)) → KeyOf n x
  map_only n x h = key_found x n (omega (arith, sorted_same (keys_of s table n) x))

  -- ---- the bounds
  pub least_low : (n i : ℕ) → i < n → least s table n ≤ string_data_off s table i
  unfolding least
  least_low zero i p = absurd (omega arith)
  least_low (suc n) i p =
      ⊎_elim (λ e. omega (arith, ap (string_data_off s table) e)) (λ l. omega (arith, least_low n i l)) (last? i n p)

  pub greatest_high : (n i : ℕ) → i < n → string_data_off s table i ≤ greatest s table n
  unfolding greatest
  greatest_high zero i p = absurd (omega arith)
  greatest_high (suc n) i p =
      ⊎_elim (λ e. omega (arith, ap (string_data_off s table) e)) (λ l. omega (arith, greatest_high n i l)) (last? i n p)
