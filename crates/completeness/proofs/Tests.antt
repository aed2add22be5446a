-- What tests tell, and what makes them pass: each is a case on one Boolean.
-- Assumes nothing.
use Prim.Native.Nat.{ℕ, ◌≤◌, ◌<◌}
use native.Mathlib.Omega.{arith}
use mathlib.Core.Path.{◌≡◌}
use mathlib.Core.Logic.{◌⊎◌, inl, inr, ⊎_elim}
use mathlib.Core.Bool.{true, false}
use mathlib.Core.List.{List, [], ◌∷◌, Memᴰ}
use lib.Dec.{ltb, eqb}
use borrow.Author.Tests.{ltb-true, ltb-false, eqb-true, eqb-false, eq-eqb}
use Rattle.words.proofs.Shared.{case, or_right}
use Rattle.code_item_scan.specs.Scan.{is_in}

pub no_test : false ≡ true → ⊥
no_test q = let z : ◌≡◌ {A = ℕ} 0 1 = cc in omega arith

pub eq_or_not : (a b : ℕ) → (a ≡ b) ⊎ (a ≡ b → ⊥)
eq_or_not a b = ⊎_elim (λ (e : eqb a b ≡ true). inl (eqb-true a b e)) (λ (e : eqb a b ≡ false). inr (eqb-false a b e)) (case (eqb a b))

pub lt_or_le : (a b : ℕ) → (a < b) ⊎ (b ≤ a)
lt_or_le a b = ⊎_elim (λ (e : ltb a b ≡ true). inl (ltb-true a b e)) (λ (e : ltb a b ≡ false). inr (ltb-false a b e)) (case (ltb a b))

-- the scan's test of a wanted index decides membership
pub is_in_mem : (x : ℕ) (ys : List ℕ) → is_in x ys ≡ true → Memᴰ x ys
is_in_mem x [] e = absurd (no_test e)
is_in_mem x (y ∷ ys) e =
    ⊎_elim
    (λ (h : eqb x y ≡ true). Memᴰ.head (eqb-true x y h))
    (λ (h : eqb x y ≡ false). Memᴰ.tail (is_in_mem x ys (rw h at e)))
    (case (eqb x y))

pub mem_is_in : {x : ℕ} {ys : List ℕ} → Memᴰ x ys → is_in x ys ≡ true
mem_is_in {x} (Memᴰ.head {x = y} {xs = ys} e) = rw (eq-eqb x y e)
mem_is_in {x} (Memᴰ.tail {x = y} {xs = ys} m) = or_right (eqb x y) (is_in x ys) (mem_is_in m)
