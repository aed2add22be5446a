-- ASCII case: what it is to ignore it. Bytes above 0x7f have none.
-- Assumes nothing.
use Rattle.std.specs.Prelude.{ℕ, ◌+◌, ◌≡◌, ◌⊎◌, Bool, cond, ◌&&◌, leb}

-- ASCII case ignored: a letter A to Z counts as its small letter
unfoldable pub lower_case : ℕ → ℕ
lower_case b = cond (leb 0x41 b && leb b 0x5a) (b + 32) b

-- a byte as it is compared, case ignored or not
unfoldable pub folded : Bool → ℕ → ℕ
folded any_case b = cond any_case (lower_case b) b

-- r is the other letter that counts as the small letter b, if there is one
pub record Capital (b r : ℕ) : Type 0 where
  pub only : (x : ℕ) → lower_case x ≡ b → (x ≡ b) ⊎ (x ≡ r)
