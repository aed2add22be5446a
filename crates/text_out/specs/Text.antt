-- Decimal numbers as they are written, and the outcome of a text.
-- Assumes nothing.
use Rattle.std.specs.Prelude.{ℕ, zero, suc, ◌+◌, ◌^◌, List, [], ◌∷◌, cond, length, leb}
use Rattle.io.specs.Digits.{last_digits}
use Rattle.refusal.specs.Outcomes.{Outcome, refused, success}

-- the greatest power of ten, up to the k-th, that is not past n; the 0th where none is
unfoldable pub reach : ℕ → ℕ → ℕ
reach zero n = 0
reach (suc k) n = cond (leb (10 ^ suc k) n) (suc k) (reach k n)

-- the digits of n below 10^20, without leading zeros, and 0 as one digit
unfoldable pub decimal : ℕ → List ℕ
decimal n = last_digits 10 (reach 19 n + 1) n

-- the byte that ends a line
abbrev pub feed : List ℕ
feed = 10 ∷ []

-- the outcome of a text where room bytes are lent
unfoldable pub text_outcome : List ℕ → ℕ → Outcome
text_outcome text room = cond (leb (length text) room) (success text) (refused 4)
