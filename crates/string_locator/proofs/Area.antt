-- The text area of a map lies inside the file, and every string's data begin in it: it runs from the least data offset to after the
-- greatest.
-- Assumes nothing.
use Rattle.std.specs.Prelude.{Option, Some, None}
use Prim.Native.Nat.{ℕ, ◌+◌, ◌<◌, ◌≤◌}
use native.Mathlib.Omega.{arith}
use mathlib.Core.Path.{◌≡◌, refl}
use mathlib.Core.List.{List}
use lib.ListN.{length}
use lib.Dec.{ltb, leb, eqb}
use borrow.Author.Tests.{eqb-false}
use Rattle.words.proofs.Shared.{cond_elim}
use Rattle.dalvik.specs.Ids.{item, string_id_size, string_data_off}
use Rattle.refusal.specs.Refusals.{is_too_large}
use Rattle.string_data.specs.Text.{first_zero, on_zero}
use Rattle.string_data.proofs.Laws.{zero_in}
use Rattle.string_locator.specs.LengthBytes.{length_bytes, on_length}
use Rattle.string_locator.specs.Map.{least, greatest, MapOutcome, none, area, text_area, strings_area, map_outcome}
use Rattle.string_locator.proofs.LengthBytes.{length_in}
use Rattle.string_locator.proofs.Keys.{least_low, greatest_high}

pub record Within (s : List ℕ) (table : ℕ) (o : MapOutcome) : Type 0 where
  pub forward : o.start ≤ o.end
  pub inside : o.end ≤ length s
  pub covers : (i : ℕ) → i < o.count → (o.start ≤ string_data_off s table i) × (string_data_off s table i < o.end)

module _ (s : List ℕ) (table n : ℕ) where
  none_within : (r : ℕ) → Within s table (none r)
  none_within r = record { forward = omega arith; inside = omega arith; covers = λ i h. absurd (omega arith) }

  module _ (lo hi : ℕ) (low : (i : ℕ) → i < n → lo ≤ string_data_off s table i) (high : (i : ℕ) → i < n → string_data_off s table i ≤ hi) (p : lo ≤ hi) where
    zero_within : (k : ℕ) → 1 ≤ k → (r : Option ℕ) → r ≡ first_zero s (hi + k) → Within s table (on_zero r (none 5) (λ (m : ℕ). area lo (hi + k + m + 1) n))
    zero_within k q (Some m) e =
        record {
          forward = omega arith;
          inside = omega (arith, zero_in s (hi + k) m e);
          covers = λ i h. (low i h, omega (arith, high i h));
        }
    zero_within k q None e = none_within 5

    len_within : (r : Option ℕ) → r ≡ length_bytes s hi
        → Within s table (on_length r (none 5) (λ (k : ℕ). on_zero (first_zero s (hi + k)) (none 5) (λ (m : ℕ). area lo (hi + k + m + 1) n)))
    len_within (Some k) e = zero_within k (length_in s hi k e).0 (first_zero s (hi + k)) refl
    len_within None e = none_within 5

    text_within : Within s table (text_area s lo hi n)
    unfolding text_area
    text_within = len_within (length_bytes s hi) refl

  strings_within : 0 < n → Within s table (strings_area s table n)
  unfolding strings_area
  strings_within p =
      cond_elim (Within s table) (leb (length s) (greatest s table n)) _ _ (λ _. none_within 5)
      (λ _. text_within (least s table n) (greatest s table n) (least_low s table n) (greatest_high s table n)
      (omega (arith, least_low s table n 0 p, greatest_high s table n 0 p)))

  pub within : (lent : ℕ) → Within s table (map_outcome s table n lent)
  unfolding map_outcome
  within lent =
      cond_elim (Within s table) (is_too_large (length s)) _ _ (λ _. none_within 1)
      (λ _. cond_elim (Within s table) (eqb n 0) _ _ (λ _. none_within 0)
      (λ some. cond_elim (Within s table) (ltb (length s) (item table string_id_size n)) _ _ (λ _. none_within 3)
      (λ _. cond_elim (Within s table) (ltb lent n) _ _ (λ _. none_within 4) (λ _. strings_within (above n (eqb-false n 0 some))))))
    where
      above : (n : ℕ) → (n ≡ 0 → ⊥) → 0 < n
      above n h = omega arith
