-- On a published string_data_item both operations give its text: its size has at most five bytes, and since the value has 32 bits
-- the fifth is below 0x10.
-- Assumes nothing.
use Rattle.std.specs.Prelude.{Some}
use Prim.Native.Nat.{ℕ, zero, suc, ◌+◌, ◌*◌, ◌-◌, ◌<◌, ◌≤◌}
use native.Mathlib.Omega.{arith}
use mathlib.Core.Path.{◌≡◌, sym, ap, ◌∙◌}
use mathlib.Core.Logic.{◌≢◌}
use mathlib.Core.List.{List}
use lib.ListN.{length}
use borrow.Author.Tests.{le-ltb}
use Rattle.dalvik.specs.Numbers.{byte, Leb128}
use Rattle.dalvik.specs.Numbers.Leb128.{last_byte, more_bytes}
use Rattle.dalvik.specs.Ids.{StringData}
use Rattle.refusal.specs.Refusals.{largest_file}
use Rattle.string_data.specs.Text.{first_zero, further, found, text_from, after_length, string_text, stretch_of}
use Rattle.string_data.proofs.Laws.{zero_here, zero_later, text_ends, length_ends, length_more, small_enough}

-- n bytes, of which none is zero, and then a zero
pub zero_at : (s : List ℕ) (n i : ℕ) → i + n < length s → ((k : ℕ) → k < n → byte s (i + k) ≢ 0) → byte s (i + n) ≡ 0 → first_zero s i ≡ Some n
zero_at s zero i h none_zero at = zero_here s i i (omega arith) (ap (byte s) (omega arith) ∙ at)
zero_at s (suc n) i h none_zero at =
    let later =
    zero_at s n (i + 1) (omega arith) (λ k q e. none_zero (suc k) (omega arith) (ap (byte s) (omega arith) ∙ e))
    (ap (byte s) (omega arith) ∙ at) in
    zero_later s i i (omega arith) (λ e. none_zero 0 (omega arith) (ap (byte s) (omega arith) ∙ e)) ∙ (ap further later ∙ ap Some (omega arith))

-- the values of k + 1 length bytes of which the fifth is below 0x10
unfoldable pub lim : ℕ → ℕ
lim zero = 16
lim (suc k) = 128 * lim k

some_bytes : {s : List ℕ} {k i v e : ℕ} → Leb128 s k i v e → 0 < k
some_bytes (last_byte h b) = omega arith
some_bytes (more_bytes h b r) = omega arith

after : {s : List ℕ} (k i v e : ℕ) → Leb128 s (suc k) i v e → v < lim k → after_length (suc k) s i ≡ text_from s e
unfolding lim
after {s} zero i _ _ (last_byte h b) l = sym (length_ends s i 1 (omega arith) h (λ _. omega arith) b)
after {s} zero i _ _ (more_bytes h b r) l = absurd (omega (arith, some_bytes r))
after {s} (suc k) i _ _ (last_byte h b) l = sym (length_ends s i (suc (suc k)) (omega arith) h (λ e. absurd (omega arith)) b)
after {s} (suc k) i _ e (more_bytes {v = v} h b r) l =
    let q : suc (suc k) - 1 ≡ suc k = omega arith in
    sym (length_more s i (suc (suc k)) (omega arith) h (λ e. absurd (omega arith)) b)
    ∙ (ap (λ (n : ℕ). after_length n s (i + 1)) q ∙ after k (i + 1) v e r (omega arith))

-- the item's text, and where it stands
pub record Read (s : List ℕ) (i : ℕ) (text : List ℕ) (item : StringData s i text) : Type 0 where
  pub answer : string_text s i ≡ found item.start item.n
  pub bytes : stretch_of s (string_text s i) ≡ text

pub published : {s : List ℕ} {i : ℕ} {text : List ℕ} (item : StringData s i text) → length s ≤ largest_file → Read s i text item
unfolding lim
published {s} {i} {text} item h =
    let size = after 4 i item.utf16_size item.start item.size.number (omega (arith, item.size.fits)) in
    let text_after =
    text_ends s item.start item.n (sym (zero_at s item.n item.start item.inside item.none_zero item.final_zero)) in
    let answer = sym (small_enough s i (le-ltb largest_file (length s) h) _ (text_after ∙ sym size)) in
    record { answer = answer; bytes = ap (stretch_of s) answer ∙ sym item.bytes }
