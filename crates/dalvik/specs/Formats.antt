-- Instruction formats: "Dalvik bytecode", "Summary of bytecode set", and "Dalvik instruction formats", "Format IDs". The first digit
-- of a format's id is the length in units of two bytes.
-- Assumes nothing.
use Rattle.std.specs.Prelude.{ℕ, List, [], ◌∷◌, get_or}

pub data Format : Type 0 where
  f10t f10x f11n f11x f12x : Format
  f20t f21c f21h f21s f21t f22b f22c f22s f22t f22x f23x : Format
  f30t f31c f31i f31t f32x f35c f3rc : Format
  f45cc f4rcc : Format
  f51l : Format
  -- an opcode without an instruction
  unused : Format

-- 0 for an opcode without an instruction
abbrev pub format_units : Format → ℕ
format_units f10t = 1
format_units f10x = 1
format_units f11n = 1
format_units f11x = 1
format_units f12x = 1
format_units f20t = 2
format_units f21c = 2
format_units f21h = 2
format_units f21s = 2
format_units f21t = 2
format_units f22b = 2
format_units f22c = 2
format_units f22s = 2
format_units f22t = 2
format_units f22x = 2
format_units f23x = 2
format_units f30t = 3
format_units f31c = 3
format_units f31i = 3
format_units f31t = 3
format_units f32x = 3
format_units f35c = 3
format_units f3rc = 3
format_units f45cc = 4
format_units f4rcc = 4
format_units f51l = 5
format_units unused = 0

-- the formats of the opcodes 00 to ff, sixteen a line
unfoldable pub formats : List Format
formats =
    f10x ∷ f12x ∷ f22x ∷ f32x ∷ f12x ∷ f22x ∷ f32x ∷ f12x ∷ f22x ∷ f32x ∷ f11x ∷ f11x ∷ f11x ∷ f11x ∷ f10x ∷ f11x ∷
    f11x ∷ f11x ∷ f11n ∷ f21s ∷ f31i ∷ f21h ∷ f21s ∷ f31i ∷ f51l ∷ f21h ∷ f21c ∷ f31c ∷ f21c ∷ f11x ∷ f11x ∷ f21c ∷
    f22c ∷ f12x ∷ f21c ∷ f22c ∷ f35c ∷ f3rc ∷ f31t ∷ f11x ∷ f10t ∷ f20t ∷ f30t ∷ f31t ∷ f31t ∷ f23x ∷ f23x ∷ f23x ∷
    f23x ∷ f23x ∷ f22t ∷ f22t ∷ f22t ∷ f22t ∷ f22t ∷ f22t ∷ f21t ∷ f21t ∷ f21t ∷ f21t ∷ f21t ∷ f21t ∷ unused ∷ unused ∷
    unused ∷ unused ∷ unused ∷ unused ∷ f23x ∷ f23x ∷ f23x ∷ f23x ∷ f23x ∷ f23x ∷ f23x ∷ f23x ∷ f23x ∷ f23x ∷ f23x ∷ f23x ∷
    f23x ∷ f23x ∷ f22c ∷ f22c ∷ f22c ∷ f22c ∷ f22c ∷ f22c ∷ f22c ∷ f22c ∷ f22c ∷ f22c ∷ f22c ∷ f22c ∷ f22c ∷ f22c ∷
    f21c ∷ f21c ∷ f21c ∷ f21c ∷ f21c ∷ f21c ∷ f21c ∷ f21c ∷ f21c ∷ f21c ∷ f21c ∷ f21c ∷ f21c ∷ f21c ∷ f35c ∷ f35c ∷
    f35c ∷ f35c ∷ f35c ∷ unused ∷ f3rc ∷ f3rc ∷ f3rc ∷ f3rc ∷ f3rc ∷ unused ∷ unused ∷ f12x ∷ f12x ∷ f12x ∷ f12x ∷ f12x ∷
    f12x ∷ f12x ∷ f12x ∷ f12x ∷ f12x ∷ f12x ∷ f12x ∷ f12x ∷ f12x ∷ f12x ∷ f12x ∷ f12x ∷ f12x ∷ f12x ∷ f12x ∷ f12x ∷
    f23x ∷ f23x ∷ f23x ∷ f23x ∷ f23x ∷ f23x ∷ f23x ∷ f23x ∷ f23x ∷ f23x ∷ f23x ∷ f23x ∷ f23x ∷ f23x ∷ f23x ∷ f23x ∷
    f23x ∷ f23x ∷ f23x ∷ f23x ∷ f23x ∷ f23x ∷ f23x ∷ f23x ∷ f23x ∷ f23x ∷ f23x ∷ f23x ∷ f23x ∷ f23x ∷ f23x ∷ f23x ∷
    f12x ∷ f12x ∷ f12x ∷ f12x ∷ f12x ∷ f12x ∷ f12x ∷ f12x ∷ f12x ∷ f12x ∷ f12x ∷ f12x ∷ f12x ∷ f12x ∷ f12x ∷ f12x ∷
    f12x ∷ f12x ∷ f12x ∷ f12x ∷ f12x ∷ f12x ∷ f12x ∷ f12x ∷ f12x ∷ f12x ∷ f12x ∷ f12x ∷ f12x ∷ f12x ∷ f12x ∷ f12x ∷
    f22s ∷ f22s ∷ f22s ∷ f22s ∷ f22s ∷ f22s ∷ f22s ∷ f22s ∷ f22b ∷ f22b ∷ f22b ∷ f22b ∷ f22b ∷ f22b ∷ f22b ∷ f22b ∷
    f22b ∷ f22b ∷ f22b ∷ unused ∷ unused ∷ unused ∷ unused ∷ unused ∷ unused ∷ unused ∷ unused ∷ unused ∷ unused ∷ unused ∷ unused ∷ unused ∷
    unused ∷ unused ∷ unused ∷ unused ∷ unused ∷ unused ∷ unused ∷ unused ∷ unused ∷ unused ∷ f45cc ∷ f4rcc ∷ f35c ∷ f3rc ∷ f21c ∷ f21c ∷ []

-- the format of an opcode
unfoldable pub format_of : ℕ → Format
format_of op = get_or formats op unused

-- the length of an instruction, in units of two bytes, by its opcode
unfoldable pub length_of : ℕ → ℕ
length_of op = format_units (format_of op)
