-- The length of an instruction, read off its opcode byte by ranges: SPEC, Instruction lengths. That these are the lengths of
-- the published formats is proved in proofs/Published.antt.
-- Assumes nothing.
use Rattle.std.specs.Prelude.{ℕ, List, [], ◌∷◌, Bool, false, cond, ◌&&◌, ◌||◌, leb, eqb, Option, Some, None}

-- the opcodes from one number to another, both included
pub record Range : Type 0 where
  pub from : ℕ
  pub to : ℕ

abbrev pub only : ℕ → Range
only a = record { from = a; to = a }

abbrev pub up_to : ℕ → ℕ → Range
up_to a b = record { from = a; to = b }

abbrev pub within : ℕ → List Range → Bool
within x [] = false
within x (r ∷ rs) = leb r.from x && leb x r.to || within x rs

abbrev pub of_one : List Range
of_one =
    only 0x00 ∷ only 0x01 ∷ only 0x04 ∷ only 0x07 ∷ up_to 0x0a 0x12 ∷ only 0x1d ∷ only 0x1e ∷ only 0x21 ∷ only 0x27 ∷ only 0x28 ∷
    up_to 0x7b 0x8f ∷ up_to 0xb0 0xcf ∷ []

abbrev pub of_two : List Range
of_two =
    only 0x02 ∷ only 0x05 ∷ only 0x08 ∷ only 0x13 ∷ only 0x15 ∷ only 0x16 ∷ only 0x19 ∷ only 0x1a ∷ only 0x1c ∷ only 0x1f ∷ only 0x20 ∷
    only 0x22 ∷ only 0x23 ∷ only 0x29 ∷ up_to 0x2d 0x3d ∷ up_to 0x44 0x6d ∷ up_to 0x90 0xaf ∷ up_to 0xd0 0xe2 ∷ only 0xfe ∷ only 0xff ∷ []

abbrev pub of_three : List Range
of_three =
    only 0x03 ∷ only 0x06 ∷ only 0x09 ∷ only 0x14 ∷ only 0x17 ∷ only 0x1b ∷ up_to 0x24 0x26 ∷ up_to 0x2a 0x2c ∷ up_to 0x6e 0x72 ∷
    up_to 0x74 0x78 ∷ only 0xfc ∷ only 0xfd ∷ []

abbrev pub of_four : List Range
of_four = only 0xfa ∷ only 0xfb ∷ []

abbrev pub of_five : List Range
of_five = only 0x18 ∷ []

-- in units of two bytes; 0 for an opcode without a length
unfoldable pub units_of : ℕ → ℕ
units_of op =
    cond (within op of_one) 1
    (cond (within op of_two) 2
    (cond (within op of_three) 3
    (cond (within op of_four) 4
    (cond (within op of_five) 5 0))))

-- units, or nothing for 0
abbrev pub as_length : ℕ → Option ℕ
as_length n = cond (eqb n 0) None (Some n)

unfoldable pub length_read : ℕ → Option ℕ
length_read op = as_length (units_of op)
