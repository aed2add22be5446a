-- What `digit` answers of a byte: its value as a digit, which is small.
-- Assumes nothing.
use Rattle.std.specs.Prelude.{ℕ, ◌<◌, ◌≡◌}
use Rattle.text_in.specs.Numbers.{digit}

-- r is what the byte b stands for
pub record Digit (b r : ℕ) : Type 0 where
  pub is : r ≡ digit b
  pub small : r < 256
