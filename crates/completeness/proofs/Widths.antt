-- The scan looks for what an instruction of the kind names: its ranges are the published opcodes, its width that of the published index,
-- and the published length of such an instruction holds the index.
-- Assumes nothing.
use Prim.Native.Nat.{ℕ, ◌+◌, ◌*◌, ◌≤◌, ◌<◌}
use native.Mathlib.Omega.{arith}
use mathlib.Core.Path.{◌≡◌, refl}
use mathlib.Core.Logic.{⊎_elim}
use mathlib.Core.Bool.{Bool, true, false, cond, ◌&&◌, ◌||◌}
use mathlib.Core.List.{List, [], ◌∷◌}
use lib.Dec.{T, leb, eqb}
use borrow.Author.Tests.{leb-true, le-leb, eqb-true, eq-eqb, ne_eqb}
use Rattle.words.proofs.Shared.{case, and_left, and_right, or_right}
use Rattle.words.proofs.Arms.{upto, upto_at}
use Rattle.dalvik.specs.Numbers.{byte}
use Rattle.dalvik.specs.Formats.{formats, format_of, length_of}
use Rattle.dalvik.specs.Instructions.{Kind, TypeOpcode, FieldOpcode, MethodOpcode, Names}
use Rattle.dalvik.specs.Instructions.Kind.{strings, types, fields, methods}
use Rattle.dalvik.specs.Instructions.TypeOpcode.{const_class, check_cast, instance_of, new_or_filled}
use Rattle.dalvik.specs.Instructions.FieldOpcode.{iinstanceop, sstaticop}
use Rattle.dalvik.specs.Instructions.MethodOpcode.{invoke, invoke_range, invoke_polymorphic}
use Rattle.dalvik.specs.Instructions.Names.{const_string, const_string_jumbo, type_index, field_index, method_index}
use Rattle.opcodes.specs.Length.{Range, only, up_to, within}
use Rattle.kinds.specs.Width.{type_opcodes, field_opcodes, method_opcodes, width_of}
use Rattle.code_item_scan.specs.Scan.{index_at}
use Rattle.completeness.proofs.Tests.{no_test, lt_or_le}

-- nothing is named by opcode 0, with which payloads begin
pub zero_width : (kind : Kind) → width_of kind 0 ≡ 0
unfolding width_of
zero_width strings = refl
zero_width types = refl
zero_width fields = refl
zero_width methods = refl

-- ---- ranges
data Within (op : ℕ) : List Range → Type 0 where
  this : {r : Range} {rs : List Range} → r.from ≤ op → op ≤ r.to → Within op (r ∷ rs)
  other : {r : Range} {rs : List Range} → Within op rs → Within op (r ∷ rs)

within_true : (op : ℕ) (rs : List Range) → within op rs ≡ true → Within op rs
within_true op [] e = absurd (no_test e)
within_true op (r ∷ rs) e =
    ⊎_elim
    (λ (h : (leb r.from op && leb op r.to) ≡ true).
    this (leb-true r.from op (and_left (leb r.from op) (leb op r.to) h))
    (leb-true op r.to (and_right (leb r.from op) (leb op r.to) h)))
    (λ (h : (leb r.from op && leb op r.to) ≡ false). other (within_true op rs (rw h at e)))
    (case (leb r.from op && leb op r.to))

true_within : {op : ℕ} {rs : List Range} → Within op rs → within op rs ≡ true
true_within {op} (this {r = r} f t) = rw (le-leb r.from op f, le-leb op r.to t)
true_within {op} (other {r = r} {rs = rs} w) = or_right (leb r.from op && leb op r.to) (within op rs) (true_within w)

types_in : {op : ℕ} → TypeOpcode op → Within op type_opcodes
types_in (const_class q) = this {r = only 0x1c} (omega arith) (omega arith)
types_in (check_cast q) = other (this {r = only 0x1f} (omega arith) (omega arith))
types_in (instance_of q) = other (other (this {r = only 0x20} (omega arith) (omega arith)))
types_in (new_or_filled f t) = other (other (other (this f t)))

in_types : {op : ℕ} → Within op type_opcodes → TypeOpcode op
in_types (this f t) = const_class (omega arith)
in_types (other (this f t)) = check_cast (omega arith)
in_types (other (other (this f t))) = instance_of (omega arith)
in_types (other (other (other (this f t)))) = new_or_filled f t
in_types {op = op} (other (other (other (other x)))) = elim x [ ]

fields_in : {op : ℕ} → FieldOpcode op → Within op field_opcodes
fields_in (iinstanceop f t) = this {r = up_to 0x52 0x6d} (omega arith) (omega arith)
fields_in (sstaticop f t) = this {r = up_to 0x52 0x6d} (omega arith) (omega arith)

in_fields : {op : ℕ} → Within op field_opcodes → FieldOpcode op
in_fields {op} (this f t) = ⊎_elim (λ (h : op < 0x60). iinstanceop f (omega arith)) (λ (h : 0x60 ≤ op). sstaticop h t) (lt_or_le op 0x60)
in_fields {op = op} (other x) = elim x [ ]

methods_in : {op : ℕ} → MethodOpcode op → Within op method_opcodes
methods_in (invoke f t) = this f t
methods_in (invoke_range f t) = other (this f t)
methods_in {op} (invoke_polymorphic f t) =
    ⊎_elim
    (λ (h : op < 0xfb). other (other (this {r = only 0xfa} (omega arith) (omega arith))))
    (λ (h : 0xfb ≤ op). other (other (other (this {r = only 0xfb} (omega arith) (omega arith)))))
    (lt_or_le op 0xfb)

in_methods : {op : ℕ} → Within op method_opcodes → MethodOpcode op
in_methods (this f t) = invoke f t
in_methods (other (this f t)) = invoke_range f t
in_methods (other (other (this f t))) = invoke_polymorphic (omega arith) (omega arith)
in_methods (other (other (other (this f t)))) = invoke_polymorphic (omega arith) (omega arith)
in_methods {op = op} (other (other (other (other x)))) = elim x [ ]

-- ---- the index
-- it ends by the instruction's end: one computed test over all opcodes
roomy : Kind → ℕ → Bool
roomy kind op = eqb (width_of kind op) 0 || leb (2 + width_of kind op) (2 * length_of op)

all_roomy : (kind : Kind) → T (upto (roomy kind) 256 0)
unfolding roomy width_of length_of format_of formats
all_roomy strings = tt
all_roomy types = tt
all_roomy fields = tt
all_roomy methods = tt

passes : (b : Bool) → T b → b ≡ true
passes true t = refl
passes false t = absurd t

pub index_fits : (kind : Kind) (op : ℕ) → op < 256 → 0 < width_of kind op → 2 + width_of kind op ≤ 2 * length_of op
unfolding roomy
index_fits kind op h w =
    let r : (eqb (width_of kind op) 0 || leb (2 + width_of kind op) (2 * length_of op)) ≡ true
    = passes (roomy kind op) (upto_at (roomy kind) 256 0 op (all_roomy kind) (omega arith) h) in
    leb-true (2 + width_of kind op) (2 * length_of op) (rw (ne_eqb (width_of kind op) 0 (omega arith)) at r)

two : (b : Bool) → 0 < cond b 2 0 → b ≡ true
two true h = refl
two false h = absurd (omega arith)

pub record Seen (s : List ℕ) (kind : Kind) (p i : ℕ) : Type 0 where
  pub some_width : 0 < width_of kind (byte s p)
  pub index : index_at s (p + 2) (width_of kind (byte s p)) ≡ i

pub named_width : {s : List ℕ} {kind : Kind} {p i : ℕ} → Names s p i kind → Seen s kind p i
unfolding width_of index_at
named_width {s} {p = p} (const_string o e) =
    record { some_width = rw (eq-eqb (byte s p) 0x1a o) (omega arith); index = rw (eq-eqb (byte s p) 0x1a o) e }
named_width {s} {p = p} (const_string_jumbo o e) =
    let a : eqb (byte s p) 0x1a ≡ false = ne_eqb (byte s p) 0x1a (omega arith) in
    let b : eqb (byte s p) 0x1b ≡ true = eq-eqb (byte s p) 0x1b o in
    record { some_width = rw (a, b) (omega arith); index = rw (a, b) e }
named_width (type_index o e) = record { some_width = rw (true_within (types_in o)) (omega arith); index = rw (true_within (types_in o)) e }
named_width (field_index o e) = record { some_width = rw (true_within (fields_in o)) (omega arith); index = rw (true_within (fields_in o)) e }
named_width (method_index o e) = record { some_width = rw (true_within (methods_in o)) (omega arith); index = rw (true_within (methods_in o)) e }

pub width_names : (s : List ℕ) (kind : Kind) (p : ℕ) → 0 < width_of kind (byte s p) → Names s p (index_at s (p + 2) (width_of kind (byte s p))) kind
unfolding width_of index_at
width_names s strings p h =
    ⊎_elim
    (λ (a : eqb (byte s p) 0x1a ≡ true). const_string (eqb-true (byte s p) 0x1a a) (rw a))
    (λ (a : eqb (byte s p) 0x1a ≡ false).
    ⊎_elim
    (λ (b : eqb (byte s p) 0x1b ≡ true). const_string_jumbo (eqb-true (byte s p) 0x1b b) (rw (a, b)))
    (λ (b : eqb (byte s p) 0x1b ≡ false). absurd (none (rw (a, b) at h)))
    (case (eqb (byte s p) 0x1b)))
    (case (eqb (byte s p) 0x1a))
  where
    none : 0 < 0 → ⊥
    none q = omega arith
width_names s types p h =
    let e : within (byte s p) type_opcodes ≡ true = two (within (byte s p) type_opcodes) h in
    type_index (in_types (within_true (byte s p) type_opcodes e)) (rw e)
width_names s fields p h =
    let e : within (byte s p) field_opcodes ≡ true = two (within (byte s p) field_opcodes) h in
    field_index (in_fields (within_true (byte s p) field_opcodes e)) (rw e)
width_names s methods p h =
    let e : within (byte s p) method_opcodes ≡ true = two (within (byte s p) method_opcodes) h in
    method_index (in_methods (within_true (byte s p) method_opcodes e)) (rw e)
