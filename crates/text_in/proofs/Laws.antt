-- The definitions of numbers, words and line ends, a law for each way out of them: each looks at the byte at its place.
-- Assumes nothing.
use Rattle.std.specs.Prelude.{Some, None, true, false}
use Prim.Native.Nat.{ℕ, suc, ◌+◌, ◌*◌, ◌^◌, ◌<◌, ◌≤◌}
use native.Mathlib.Omega.{arith}
use native.Mathlib.Numerals.{add-one}
use mathlib.Core.Path.{◌≡◌, sym, ap, ◌∙◌}
use mathlib.Core.List.{List, [], ◌∷◌}
use lib.ListN.{length, get_or, take, drop, drop_of_length-le}
use lib.Seq.{drop-cons, slice}
use Rattle.std.proofs.lemmas.Slice.{between_is}
use borrow.Author.Tests.{lt-ltb, le-ltb, eq-eqb, ne_eqb}
use Rattle.words.proofs.Shared.{cond_elim}
use Rattle.text_in.specs.Numbers.{is_digit, leading, digit, value_from, value_read, digits_end, number_at}
use Rattle.text_in.specs.Words.{word_at}

module _ (s : List ℕ) (i : ℕ) where
  pub leading_end : length s ≤ i → leading (drop i s) ≡ 0
  unfolding leading
  leading_end h = rw (drop_of_length-le s h)

  pub leading_other : i < length s → is_digit (get_or s i 0) ≡ false → leading (drop i s) ≡ 0
  unfolding leading
  leading_other h b = rw (drop-cons s i 0 h, b)

  pub leading_more : i < length s → is_digit (get_or s i 0) ≡ true → leading (drop i s) ≡ 1 + leading (drop (i + 1) s)
  unfolding leading
  leading_more h b = rw (add-one i, drop-cons s i 0 h, b)

pub leading_inside : (s : List ℕ) → leading s ≤ length s
unfolding leading
leading_inside [] = omega arith
leading_inside (b ∷ r) =
    cond_elim (λ (n : ℕ). n ≤ suc (length r)) (is_digit b) (1 + leading r) 0 (λ _. omega (arith, leading_inside r)) (λ _. omega arith)

module _ (ds : List ℕ) (v i : ℕ) where
  pub value_end : length ds ≤ i → value_from v (drop i ds) ≡ v
  unfolding value_from
  value_end h = rw (drop_of_length-le ds h)

  pub value_more : i < length ds → value_from v (drop i ds) ≡ value_from (10 * v + digit (get_or ds i 0)) (drop (i + 1) ds)
  unfolding value_from
  value_more h = rw (drop-cons ds i 0 h, add-one i)

value_grows : (v : ℕ) (ds : List ℕ) → v ≤ value_from v ds
unfolding value_from
value_grows v [] = omega arith
value_grows v (b ∷ r) = omega (arith, value_grows (10 * v + digit b) r)

pub value_large : (v : ℕ) (ds : List ℕ) → 4294967295 < v → None ≡ value_read v ds
unfolding value_read
value_large v ds h = simp (le-ltb (value_from v ds) (2 ^ 32) (omega (arith, value_grows v ds)))

pub value_fits : (v : ℕ) (ds : List ℕ) → value_from v ds ≡ v → v < 2 ^ 32 → Some v ≡ value_read v ds
unfolding value_read
value_fits v ds e h = rw (e, lt-ltb v (2 ^ 32) h)

pub value_same : (v u : ℕ) (ds es : List ℕ) → value_from v ds ≡ value_from u es → value_read v ds ≡ value_read u es
unfolding value_read
value_same v u ds es e = rw e

module _ (ws s : List ℕ) (k i : ℕ) where
  pub word_end : length ws ≤ k → Some i ≡ word_at (drop k ws) s i
  unfolding word_at
  word_end h = rw (drop_of_length-le ws h)

  pub word_off : k < length ws → length s ≤ i → None ≡ word_at (drop k ws) s i
  unfolding word_at
  word_off h q = rw (drop-cons ws k 0 h, le-ltb _ _ q)

  pub word_other : k < length ws → i < length s → (get_or s i 0 ≡ get_or ws k 0 → ⊥) → None ≡ word_at (drop k ws) s i
  unfolding word_at
  word_other h q d = rw (drop-cons ws k 0 h, lt-ltb _ _ q, ne_eqb _ _ d)

  pub word_more : k < length ws → i < length s → get_or s i 0 ≡ get_or ws k 0 → word_at (drop (k + 1) ws) s (i + 1) ≡ word_at (drop k ws) s i
  unfolding word_at
  word_more h q d = rw (add-one k, drop-cons ws k 0 h, lt-ltb _ _ q, eq-eqb _ _ d)

module _ (s : List ℕ) (at : ℕ) where
  pub number_none : leading (drop at s) ≡ 0 → None ≡ number_at s at
  unfolding number_at
  number_none h = simp (eq-eqb (digits_end s at) at (omega (arith, h)))

  -- the digits, as a part of the text and as the first bytes of its rest
  taken : slice at (digits_end s at) s ≡ take (leading (drop at s)) (drop at s)
  taken = sym (between_is s at (digits_end s at)) ∙ ap (λ (n : ℕ). take n (drop at s)) (omega arith)

  pub number_past : length s ≤ at → None ≡ number_at s at
  number_past h = number_none (leading_end s at h)

  pub number_large : (leading (drop at s) ≡ 0 → ⊥) → None ≡ value_read 0 (take (leading (drop at s)) (drop at s)) → None ≡ number_at s at
  unfolding number_at
  number_large h r = rw (ne_eqb (digits_end s at) at (λ z. h (omega arith)), taken, ← r)

  pub number_some : (v : ℕ) → (leading (drop at s) ≡ 0 → ⊥) → Some v ≡ value_read 0 (take (leading (drop at s)) (drop at s))
      → Some (record { value = v; next = digits_end s at }) ≡ number_at s at
  unfolding number_at
  number_some v h r = rw (ne_eqb (digits_end s at) at (λ z. h (omega arith)), taken, ← r)
