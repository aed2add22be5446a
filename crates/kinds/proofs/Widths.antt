-- Laws of the widths: an index of a kind other than strings has two bytes, one of a string two or four, by cases on the tests.
--     width_even, width_string, width_small, width_any    the widths there are
--     strings_only                                        the kind of indices of four bytes
-- Assumes nothing.
use mathlib.Core.Path.{◌≡◌, refl}
use mathlib.Core.Bool.{Bool, true, false, cond}
use mathlib.Core.Logic.{◌⊎◌, inl, inr, ⊎_elim}
use Prim.Native.Nat.{ℕ, ◌≤◌}
use native.Mathlib.Omega.{arith}
use lib.Dec.{eqb}
use Rattle.dalvik.specs.Instructions.{Kind}
use Rattle.dalvik.specs.Instructions.Kind.{strings, types, fields, methods}
use Rattle.opcodes.specs.Length.{within}
use Rattle.kinds.specs.Kinds.{is_strings}
use Rattle.kinds.specs.Width.{width_of, type_opcodes, field_opcodes, method_opcodes}

none_or_two : (b : Bool) → (◌≡◌ {A = ℕ} (cond b 2 0) 0) ⊎ (◌≡◌ {A = ℕ} (cond b 2 0) 2)
none_or_two true = inr refl
none_or_two false = inl refl

-- kinds other than strings have indices of two bytes
pub width_even : (kind : Kind) (op : ℕ) → is_strings kind ≡ false → (width_of kind op ≡ 0) ⊎ (width_of kind op ≡ 2)
unfolding width_of
width_even strings op e = let z : ◌≡◌ {A = ℕ} 0 1 = cc in absurd (omega arith)
width_even types op e = none_or_two (within op type_opcodes)
width_even fields op e = none_or_two (within op field_opcodes)
width_even methods op e = none_or_two (within op method_opcodes)

abbrev two_or_four : Bool → Bool → ℕ
two_or_four a b = cond a 2 (cond b 4 0)

none_two_or_four : (a b : Bool) → (two_or_four a b ≡ 0) ⊎ ((two_or_four a b ≡ 2) ⊎ (two_or_four a b ≡ 4))
none_two_or_four true b = inr (inl refl)
none_two_or_four false true = inr (inr refl)
none_two_or_four false false = inl refl

pub width_string : (op : ℕ) → (width_of strings op ≡ 0) ⊎ ((width_of strings op ≡ 2) ⊎ (width_of strings op ≡ 4))
unfolding width_of
width_string op = none_two_or_four (eqb op 0x1a) (eqb op 0x1b)

pub width_small : (op : ℕ) → width_of strings op ≤ 4
width_small op = ⊎_elim (λ e. omega arith) (λ f. ⊎_elim (λ e. omega arith) (λ e. omega arith) f) (width_string op)

-- an opcode of the kind has two bytes or more
pub width_any : (kind : Kind) (op : ℕ) → (width_of kind op ≡ 0) ⊎ (2 ≤ width_of kind op)
width_any strings op = ⊎_elim (λ e. inl e) (λ f. inr (⊎_elim (λ e. omega arith) (λ e. omega arith) f)) (width_string op)
width_any types op = ⊎_elim (λ e. inl e) (λ e. inr (omega arith)) (width_even types op refl)
width_any fields op = ⊎_elim (λ e. inl e) (λ e. inr (omega arith)) (width_even fields op refl)
width_any methods op = ⊎_elim (λ e. inl e) (λ e. inr (omega arith)) (width_even methods op refl)

pub strings_only : (kind : Kind) → is_strings kind ≡ true → kind ≡ strings
strings_only strings e = refl
strings_only types e = let z : ◌≡◌ {A = ℕ} 0 1 = cc in absurd (omega arith)
strings_only fields e = let z : ◌≡◌ {A = ℕ} 0 1 = cc in absurd (omega arith)
strings_only methods e = let z : ◌≡◌ {A = ℕ} 0 1 = cc in absurd (omega arith)
