-- What the bytes of one string are (SPEC, String bytes): length bytes up to the first
-- below 128, at most five and the fifth at most 0x0f, and after them the text, up to the first zero byte. On a published
-- string_data_item that is its text: proofs/Published.antt.
-- Assumes nothing.
use Rattle.std.specs.Prelude.{ℕ, zero, suc, ◌+◌, List, [], ◌∷◌, Bool, true, false, cond, ◌&&◌, length, take, drop, ltb, eqb}
use Rattle.std.specs.Prelude.{Option, Some, None, Result, Ok, Err}
use Rattle.dalvik.specs.Numbers.{byte}
use Rattle.refusal.specs.Refusals.{refusal_number, is_too_large}
use Rattle.refusal.specs.declared.Refusal.{Refusal}
use Rattle.string_data.specs.declared.Text.{Text}

abbrev pub further : Option ℕ → Option ℕ
further (Some n) = Some (1 + n)
further None = None

-- how many bytes stand before the first zero
unfoldable pub zero_of : List ℕ → Option ℕ
zero_of [] = None
zero_of (b ∷ r) = cond (eqb b 0) (Some 0) (further (zero_of r))

-- the same from i on
unfoldable pub first_zero : List ℕ → ℕ → Option ℕ
first_zero s i = zero_of (drop i s)

-- going on after a search for a zero: a otherwise, or g of the bytes before it
abbrev pub on_zero {ℓ} : {A : Type ℓ} → Option ℕ → A → (ℕ → A) → A
on_zero (Some n) a g = g n
on_zero None a g = a

-- the refusal's number, 0 for success; where the text starts, and how many bytes it has
pub record Found : Type 0 where
  pub number : ℕ
  pub start : ℕ
  pub len : ℕ

abbrev pub none : ℕ → Found
none r = record { number = r; start = 0; len = 0 }

abbrev pub found : ℕ → ℕ → Found
found a n = record { number = 0; start = a; len = n }

-- the number and the values of each answer
abbrev pub says : Result Text Refusal → Found
says (Ok t) = found t.start t.len
says (Err r) = none (refusal_number r)

-- the text that starts at i; 5: no zero
unfoldable pub text_from : List ℕ → ℕ → Found
text_from s i = on_zero (first_zero s i) (none 5) (found i)

-- the text, by what reading its length bytes answers
abbrev pub text_at : List ℕ → Result ℕ Refusal → Found
text_at s (Ok a) = text_from s a
text_at s (Err r) = none (refusal_number r)

-- with no byte left after it a length byte is the fifth
abbrev pub is_last : ℕ → Bool
is_last zero = true
is_last (suc k) = false

-- the text after the length bytes at i, of which k may come; 6: one is not inside the file; 10: the fifth is above 0x0f
unfoldable pub after_length : ℕ → List ℕ → ℕ → Found
after_length zero s i = none 10
after_length (suc k) s i =
    cond (ltb i (length s))
    (cond (is_last k && ltb 0x0f (byte s i)) (none 10) (cond (ltb (byte s i) 128) (text_from s (i + 1)) (after_length k s (i + 1))))
    (none 6)

-- the text of the string data at i
unfoldable pub string_text : List ℕ → ℕ → Found
string_text s i = cond (is_too_large (length s)) (none 1) (after_length 5 s i)

-- that very stretch of the file: a refusal has no bytes
abbrev pub stretch_of : List ℕ → Found → List ℕ
stretch_of s f = take f.len (drop f.start s)
