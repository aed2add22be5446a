-- Decimal numbers in a text: one digit or more, leading zeros allowed, at most 2^32 - 1.
-- Assumes nothing.
use Rattle.std.specs.Prelude.{ℕ, ◌+◌, ◌-◌, ◌*◌, ◌^◌, List, [], ◌∷◌, Bool, cond, ◌&&◌, drop, ltb, leb, eqb, Option, Some, None}
use Rattle.std.proofs.Math.Seq.{slice}
use Rattle.text_in.specs.Bind.{◌>>=◌}
use Rattle.text_in.specs.declared.Number.{Number}

-- '0' to '9'
abbrev pub is_digit : ℕ → Bool
is_digit b = leb 48 b && leb b 57

abbrev pub digit : ℕ → ℕ
digit b = b - 48

-- how many digits a text begins with
unfoldable pub leading : List ℕ → ℕ
leading [] = 0
leading (b ∷ r) = cond (is_digit b) (1 + leading r) 0

-- the value of digits after digits of value v
unfoldable pub value_from : ℕ → List ℕ → ℕ
value_from v [] = v
value_from v (b ∷ r) = value_from (10 * v + digit b) r

unfoldable pub value_read : ℕ → List ℕ → Option ℕ
value_read v ds = cond (ltb (value_from v ds) (2 ^ 32)) (Some (value_from v ds)) None

-- the place after the digits at a place
abbrev pub digits_end : List ℕ → ℕ → ℕ
digits_end s at = at + leading (drop at s)

unfoldable pub number_at : List ℕ → ℕ → Option Number
number_at s at =
    cond (eqb (digits_end s at) at) None
    (value_read 0 (slice at (digits_end s at) s) >>= (λ v. Some (record { value = v; next = digits_end s at })))
