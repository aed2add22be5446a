-- What the finder's inner steps leave: clearing.
-- The definitions that the public contract cites are in Find and Gives.
-- Assumes nothing.
use Rattle.std.specs.Prelude.{ℕ, ◌≡◌, List, length}
use Rattle.words.specs.Padded.{zeros}

-- four slices cleared
pub record Four : Type 0 where
  pub first : List ℕ
  pub second : List ℕ
  pub third : List ℕ
  pub fourth : List ℕ

abbrev pub four : List ℕ → List ℕ → List ℕ → List ℕ → Four
four a b c d = record { first = a; second = b; third = c; fourth = d }

pub record Cleared (before after : Four) : Type 0 where
  pub first : after.first ≡ zeros (length before.first)
  pub second : after.second ≡ zeros (length before.second)
  pub third : after.third ≡ zeros (length before.third)
  pub fourth : after.fourth ≡ zeros (length before.fourth)
