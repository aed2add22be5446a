-- The number's definition, a law for each way out of them: a byte below 128 ends a number, any other goes on with the next, and a fifth
-- byte ends it or is too much.
-- Assumes nothing.
use Rattle.std.specs.Prelude.{Result, Ok, Err}
use Prim.Native.Nat.{ℕ, zero, suc, ◌+◌, ◌<◌, ◌≤◌}
use mathlib.Core.Path.{◌≡◌, ap, ◌∙◌}
use mathlib.Core.List.{List}
use lib.ListN.{length}
use borrow.Author.Tests.{lt-ltb, le-ltb}
use Rattle.structs.specs.Reads.{ByteAt}
use Rattle.refusal.specs.declared.Refusal.{Refusal}
use Rattle.refusal.specs.declared.Refusal.TheVariants.{NumberOutside, NumberTooLong}
use Rattle.leb128.specs.Leb.{uleb, uleb_of, carry}
use Rattle.leb128.specs.declared.Uleb.{Uleb}

module _ (s : List ℕ) (i : ℕ) where
  pub off : (k : ℕ) → length s ≤ i → Err NumberOutside ≡ uleb k s i
  unfolding uleb
  off zero h = simp (le-ltb _ _ h)
  off (suc k) h = simp (le-ltb _ _ h)

  module _ (b : ℕ) (a : ByteAt s i b) (h : i < length s) where
    pub done : (k : ℕ) → b < 128 → Ok (uleb_of b 1) ≡ uleb (suc k) s i
    unfolding uleb
    done k t = simp (lt-ltb _ _ h, ← a.is, lt-ltb _ _ t)

    pub more : (k : ℕ) (r : Result Uleb Refusal) → 128 ≤ b → r ≡ uleb k s (i + 1) → carry b r ≡ uleb (suc k) s i
    unfolding uleb
    more k r t e = ap (carry b) e ∙ simp (lt-ltb _ _ h, ← a.is, le-ltb _ _ t)

    pub last : b < 16 → Ok (uleb_of b 1) ≡ uleb 0 s i
    unfolding uleb
    last t = simp (lt-ltb _ _ h, ← a.is, lt-ltb _ _ t)

    pub too_long : 16 ≤ b → Err NumberTooLong ≡ uleb 0 s i
    unfolding uleb
    too_long t = simp (lt-ltb _ _ h, ← a.is, le-ltb _ _ t)

pub num : (v w n : ℕ) (r : Result Uleb Refusal) → v ≡ w → Ok (uleb_of w n) ≡ r → Ok (uleb_of v n) ≡ r
num v w n r e f = ap (λ (x : ℕ). Ok (uleb_of x n)) e ∙ f
