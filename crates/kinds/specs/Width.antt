-- The opcodes that name an index of each kind, and how wide the index is: SPEC, Scan. That these are the
-- published ones is part of demand 3.
-- Assumes nothing.
use Rattle.std.specs.Prelude.{ℕ, List, [], ◌∷◌, cond, eqb}
use Rattle.dalvik.specs.Instructions.{Kind}
use Rattle.dalvik.specs.Instructions.Kind.{strings, types, fields, methods}
use Rattle.opcodes.specs.Length.{Range, only, up_to, within}

abbrev pub type_opcodes : List Range
type_opcodes = only 0x1c ∷ only 0x1f ∷ only 0x20 ∷ up_to 0x22 0x25 ∷ []

abbrev pub field_opcodes : List Range
field_opcodes = up_to 0x52 0x6d ∷ []

abbrev pub method_opcodes : List Range
method_opcodes = up_to 0x6e 0x72 ∷ up_to 0x74 0x78 ∷ only 0xfa ∷ only 0xfb ∷ []

-- how many bytes wide the index is that an opcode of the kind names; 0 for another opcode
unfoldable pub width_of : Kind → ℕ → ℕ
width_of strings op = cond (eqb op 0x1a) 2 (cond (eqb op 0x1b) 4 0)
width_of types op = cond (within op type_opcodes) 2 0
width_of fields op = cond (within op field_opcodes) 2 0
width_of methods op = cond (within op method_opcodes) 2 0
