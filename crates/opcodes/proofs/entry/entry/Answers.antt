-- The entry is the digit at the opcode's lower bits, of the word at its upper ones.
-- Assumes nothing.
use mathlib.Core.Path.{◌∙◌, ap}
use Prim.Native.Nat.{ℕ, ◌*◌, ◌^◌, ◌/◌, ◌%◌}
use Rattle.opcodes.proofs.Packed.{entry_digit}
use Rattle.opcodes.proofs.entry.entry.Goals as goal

pub returns : goal.returns
returns c =
    let op = c.args.op in
    ap (λ (w : ℕ). w / 2 ^ (4 * (op % 16)) % 16) c.line.ensures ∙ entry_digit op
