-- What callers use of the reads: one law for each case. A read past the end is a sum of zeros.
-- Assumes nothing.
use Rattle.std.specs.Prelude.{Some, None}
use Prim.Native.Nat.{ℕ, ◌+◌, ◌<◌, ◌≤◌}
use mathlib.Core.Path.{◌≡◌, refl}
use mathlib.Core.Bool.{Bool, true, false, cond}
use mathlib.Core.List.{List}
use lib.ListN.{length, get_or-eq_default}
use native.Mathlib.Omega.{arith}
use lib.Dec.{leb}
use borrow.Author.Tests.{leb-true, leb-false}
use Rattle.structs.specs.Reads.{read16, read32}
use Rattle.dalvik.specs.Numbers.{byte, le16, le32}

module _ (s : List ℕ) (i : ℕ) where
  pub byte_past : length s ≤ i → byte s i ≡ 0
  byte_past h = get_or-eq_default s 0 h

-- ---- a read taken apart
value_read : (b : Bool) (v x : ℕ) → Some v ≡ cond b (Some x) None → (b ≡ true) × (v ≡ x)
value_read true v x e = (refl, cc)
value_read false v x e = absurd (let q : ◌≡◌ {A = ℕ} 0 1 = cc in omega arith)

outside_read : (b : Bool) (x : ℕ) → None ≡ cond b (Some x) None → b ≡ false
outside_read true x e = absurd (let q : ◌≡◌ {A = ℕ} 0 1 = cc in omega arith)
outside_read false x e = refl

-- v is the number x, and its n bytes at i are inside
pub record Word (s : List ℕ) (i v n : ℕ) (x : ℕ) : Type 0 where
  pub inside : i + n ≤ length s
  pub is : v ≡ x

module _ (s : List ℕ) (i : ℕ) where
  pub read16_value : (v : ℕ) → Some v ≡ read16 s i → Word s i v 2 (le16 s i)
  unfolding read16
  read16_value v e =
      let q = value_read (leb (i + 2) (length s)) v (le16 s i) e in
      record { inside = leb-true _ _ q.0; is = q.1 }

  pub read16_outside : None ≡ read16 s i → length s < i + 2
  unfolding read16
  read16_outside e = leb-false _ _ (outside_read (leb (i + 2) (length s)) (le16 s i) e)

  pub read32_value : (v : ℕ) → Some v ≡ read32 s i → Word s i v 4 (le32 s i)
  unfolding read32
  read32_value v e =
      let q = value_read (leb (i + 4) (length s)) v (le32 s i) e in
      record { inside = leb-true _ _ q.0; is = q.1 }

  pub read32_outside : None ≡ read32 s i → length s < i + 4
  unfolding read32
  read32_outside e = leb-false _ _ (outside_read (leb (i + 4) (length s)) (le32 s i) e)
