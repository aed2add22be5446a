-- What callers use of a length: it is the definition's number of units, more than none and fewer than six.
-- Assumes nothing.
use Rattle.std.specs.Prelude.{Some, None}
use Prim.Native.Nat.{ℕ, zero, suc, ◌<◌}
use native.Mathlib.Omega.{arith}
use mathlib.Core.Path.{◌≡◌, refl}
use borrow.Author.Tests.{ne_eqb}
use Rattle.words.proofs.Shared.{cond_elim}
use Rattle.opcodes.specs.Length.{units_of, as_length, length_read, within, of_one, of_two, of_three, of_four, of_five}

pub units_small : (op : ℕ) → units_of op < 6
unfolding units_of
units_small op =
    cond_elim (λ (n : ℕ). n < 6) (within op of_one) 1 _ (λ _. omega arith) (λ _.
    cond_elim (λ (n : ℕ). n < 6) (within op of_two) 2 _ (λ _. omega arith) (λ _.
    cond_elim (λ (n : ℕ). n < 6) (within op of_three) 3 _ (λ _. omega arith) (λ _.
    cond_elim (λ (n : ℕ). n < 6) (within op of_four) 4 _ (λ _. omega arith) (λ _.
    cond_elim (λ (n : ℕ). n < 6) (within op of_five) 5 0 (λ _. omega arith) (λ _. omega arith)))))

-- what isn't 0 is a number of units
pub some_units : {n : ℕ} → (n ≡ 0 → ⊥) → Some n ≡ as_length n
some_units {n} h = rw (ne_eqb n 0 h) refl

pub record Read (op n : ℕ) : Type 0 where
  pub units : n ≡ units_of op
  pub some : 0 < n
  pub small : n < 6

as_units : (k n : ℕ) → Some n ≡ as_length k → (n ≡ k) × (0 < n)
as_units zero n e = absurd (let z : ◌≡◌ {A = ℕ} 0 1 = cc in omega arith)
as_units (suc k) n e =
    let f : Some n ≡ Some (suc k) = rw (ne_eqb (suc k) 0 (λ q. omega arith)) at e in
    let g : n ≡ suc k = cc in
    (g, omega arith)

as_nothing : (k : ℕ) → None ≡ as_length k → k ≡ 0
as_nothing zero e = refl
as_nothing (suc k) e =
    let f : None ≡ Some (suc k) = rw (ne_eqb (suc k) 0 (λ q. omega arith)) at e in
    let z : ◌≡◌ {A = ℕ} 0 1 = cc in
    absurd (omega arith)

pub length_units : (op n : ℕ) → Some n ≡ length_read op → Read op n
unfolding length_read
length_units op n e =
    let f = as_units (units_of op) n e in
    record { units = f.0; some = f.1; small = omega (arith, f.0, units_small op) }

pub length_nothing : (op : ℕ) → None ≡ length_read op → units_of op ≡ 0
unfolding length_read
length_nothing op e = as_nothing (units_of op) e
