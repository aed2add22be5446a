-- Where a payload opens no instruction stands: an instruction's unit is none of the three.
-- Assumes nothing.
use Prim.Native.Nat.{ℕ}
use mathlib.Core.List.{List}
use Rattle.dalvik.specs.Instructions.{Payload, Instruction}
use Rattle.dalvik.specs.Instructions.Payload.{packed_switch, sparse_switch, fill_array_data}

pub not_both : {s : List ℕ} {p n k : ℕ} → Payload s p n → Instruction s p k → ⊥
not_both (packed_switch e) i = i.no_packed_switch e
not_both (sparse_switch e) i = i.no_sparse_switch e
not_both (fill_array_data e) i = i.no_fill_array_data e
