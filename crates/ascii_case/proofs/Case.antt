-- Letters: std changes their case as the definitions do, so that a small letter has one capital letter, another byte none; and only 0
-- counts as 0.
-- Assumes nothing.
use Rattle.std.specs.Char.{to_ascii_lowercase, to_ascii_uppercase}
use Rattle.std.proofs.lemmas.Bool.Decides.{nat_tests}
use Prim.Native.Nat.{ℕ, ◌+◌, ◌-◌, ◌≤◌, ◌<◌}
use native.Mathlib.Omega.{arith}
use mathlib.Core.Path.{◌≡◌}
use mathlib.Core.Logic.{◌⊎◌, inl, inr, ⊎_elim}
use mathlib.Core.Bool.{Bool, true, false}
use borrow.Author.Tests.{le-leb, lt-leb, lt-ltb, le-ltb}
use Rattle.word_set.proofs.Sets.{below_or_not}
use Rattle.ascii_case.specs.Case.{lower_case, folded, Capital}

-- std's small letter is this one
module _ (b : ℕ) where
  pub lower_same : to_ascii_lowercase b ≡ lower_case b
  unfolding lower_case
  lower_same = grind (arith, nat_tests)

  lower_was : (r : ℕ) → lower_case b ≡ r → (b ≡ r) ⊎ ((0x61 ≤ r) × (r ≤ 0x7a) × (b ≡ r - 32))
  unfolding lower_case
  lower_was r e =
      ⊎_elim (λ (l : b < 0x41). inl (rw (lt-leb 0x41 b l) at e))
      (λ (l : 0x41 ≤ b). ⊎_elim (λ (h : 0x5a < b). inl (rw (le-leb 0x41 b l, lt-leb b 0x5a h) at e))
      (λ (h : b ≤ 0x5a). let z : b + 32 ≡ r = rw (le-leb 0x41 b l, le-leb b 0x5a h) at e in inr (omega arith, omega arith, omega arith)) (below_or_not 0x5a b))
      (below_or_not b 0x41)

-- what a byte was before it became a small letter: itself, or std's capital letter
pub capital_same : (b : ℕ) → Capital b (to_ascii_uppercase b)
capital_same b =
    record { only = λ x e. ⊎_elim (λ (h : x ≡ b). inl h) (λ h. inr (rw (le-ltb b 97 h.0, lt-ltb b 123 (omega (arith, h.1))) h.2)) (lower_was x b e) }

-- only 0 counts as 0
lower_zero : (x : ℕ) → lower_case x ≡ 0 → x ≡ 0
lower_zero x e = ⊎_elim (λ (h : x ≡ 0). h) (λ h. absurd (omega (arith, h.0))) (lower_was x 0 e)

pub folded_zero : (any_case : Bool) (x : ℕ) → folded any_case x ≡ 0 → x ≡ 0
unfolding folded
folded_zero true x e = lower_zero x e
folded_zero false x e = e
