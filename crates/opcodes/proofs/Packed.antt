-- Entries in one word: a length takes four bits, so each is read back by a shift over those before it.
-- Assumes nothing.
use Prim.Native.Nat.{ℕ, zero, suc, ◌+◌, ◌-◌, ◌*◌, ◌^◌, ◌/◌, ◌%◌, ◌≤◌, ◌<◌}
use native.Mathlib.Omega.{arith}
use native.Mathlib.Nat.{div-one, add-zero, add-suc, suc-add, add_comm, le_of_suc-le-suc, lt_of_lt_of_le}
use mathlib.Core.Path.{◌≡◌, ◌∙◌, ap, sym}
use mathlib.Core.List.{List}
use lib.ListN.{get_or}
use lib.Pow.{pow-add, pow_mono, shr-shr}
use Rattle.opcodes.specs.Length.{units_of}
use Rattle.opcodes.specs.Steps.{HoldsLengths, packed}
use Rattle.opcodes.proofs.Laws.{units_small}

four_more : (n : ℕ) → 4 * suc n ≡ 4 + 4 * n
four_more n = omega arith

packed_small : (op n : ℕ) → packed op n < 2 ^ (4 * n)
unfolding packed
packed_small op zero = omega arith
packed_small op (suc n) = rw (four_more n, pow-add 2 4 (4 * n)) (omega (arith, packed_small (suc op) n, units_small op))

packed_fits : (op n : ℕ) → n ≤ 16 → packed op n < 2 ^ 64
packed_fits op n h = lt_of_lt_of_le (packed_small op n) (pow_mono {j = 64} (omega arith))

-- an entry more goes below
one_more : {table : List ℕ} → HoldsLengths table → (op n : ℕ) → op < 256 → 16 * packed (suc op) n + get_or table op 0 ≡ packed op (suc n)
unfolding packed
one_more r op n h = rw (r.each op h) (add_comm (16 * packed (suc op) n) (units_of op))

-- the word holds the entries of sixteen from place i on
abbrev pub Held : ℕ → ℕ → ℕ → Type 0
Held from i word = (i ≤ 16) × (word ≡ packed (from + i) (16 - i))

module _ {table : List ℕ} {word : ℕ} (from i : ℕ) (r : HoldsLengths table) (f : from + 16 ≤ 256) (h : 0 < i) (held : Held from i word) where
  abbrev op : ℕ
  op = from + (i - 1)

  -- a turn: the entry before place i goes below them
  pub turn : 16 * word + get_or table (from + (i - 1)) 0 ≡ packed (from + (i - 1)) (16 - (i - 1))
  turn =
      let p : from + i ≡ suc op = omega arith in
      let m : 16 - (i - 1) ≡ suc (16 - i) = omega (arith, held.0) in
      ap (λ (w : ℕ). 16 * w + get_or table op 0) (held.1 ∙ ap (λ (t : ℕ). packed t (16 - i)) p) ∙ one_more r op (16 - i) (omega (arith, held.0))
      ∙ ap (packed op) (sym m)

  pub turn_fits : 16 * word + get_or table (from + (i - 1)) 0 < 2 ^ 64
  turn_fits = rw turn (packed_fits op (16 - (i - 1)) (omega (arith, held.0)))

lowest : (op p : ℕ) → (units_of op + 16 * p) % 16 ≡ units_of op
lowest op p = omega (arith, units_small op)

others : (op p : ℕ) → (units_of op + 16 * p) / 2 ^ 4 ≡ p
others op p = omega (arith, units_small op)

digit : (op n k : ℕ) → k < n → packed op n / 2 ^ (4 * k) % 16 ≡ units_of (op + k)
unfolding packed
digit op zero k h = absurd (omega arith)
digit op (suc n) zero h =
    rw (add-zero op) (ap (λ (w : ℕ). w % 16) (div-one (units_of op + 16 * packed (suc op) n)) ∙ lowest op (packed (suc op) n))
digit op (suc n) (suc k) h =
    rw (four_more k, ← shr-shr (units_of op + 16 * packed (suc op) n) 4 (4 * k), others op (packed (suc op) n), add-suc op k, ← suc-add op k)
    (digit (suc op) n k (le_of_suc-le-suc h))

-- the entry of an opcode: its lower four bits say where in the word of its upper four
pub entry_digit : (op : ℕ) → packed (16 * (op / 16)) 16 / 2 ^ (4 * (op % 16)) % 16 ≡ units_of op
entry_digit op =
    let e : 16 * (op / 16) + op % 16 ≡ op = omega arith in
    digit (16 * (op / 16)) 16 (op % 16) (omega arith) ∙ ap units_of e
