-- What stands in an instruction array: "Dalvik bytecode", "Summary of bytecode set" (the opcodes and what they name) and the three
-- payload formats, "packed-switch-payload format", "sparse-switch-payload format" and "fill-array-data-payload format".
-- Assumes nothing.
use Rattle.std.specs.Prelude.{ℕ, ◌+◌, ◌*◌, ◌/◌, ◌≤◌, ◌<◌, ◌≡◌, ◌≢◌, List}
use Rattle.dalvik.specs.Numbers.{byte, le16, le32}
use Rattle.dalvik.specs.CodeItem.{Code, start, stop}
use Rattle.dalvik.specs.Formats.{length_of}

-- a payload opens at p: its length in units
pub data Payload (s : List ℕ) (p : ℕ) : ℕ → Type 0 where
  packed_switch : le16 s p ≡ 0x0100 → Payload s p (le16 s (p + 2) * 2 + 4)
  sparse_switch : le16 s p ≡ 0x0200 → Payload s p (le16 s (p + 2) * 4 + 2)
  fill_array_data : le16 s p ≡ 0x0300 → Payload s p ((le32 s (p + 4) * le16 s (p + 2) + 1) / 2 + 4)

-- an instruction of n units stands at p: its unit opens no payload, and its opcode has a length
pub record Instruction (s : List ℕ) (p n : ℕ) : Type 0 where
  pub no_packed_switch : le16 s p ≢ 0x0100
  pub no_sparse_switch : le16 s p ≢ 0x0200
  pub no_fill_array_data : le16 s p ≢ 0x0300
  pub size : length_of (byte s p) ≡ n
  pub some_size : 0 < n

-- payloads and instructions one after another, in any order, from a to p; each ends by e
pub data Reached (s : List ℕ) (e : ℕ) : ℕ → ℕ → Type 0 where
  here : {a p : ℕ} → a ≡ p → Reached s e a p
  past_payload : {a p n : ℕ} → Payload s a n → a + 2 * n ≤ e → Reached s e (a + 2 * n) p → Reached s e a p
  past_instruction : {a p n : ℕ} → Instruction s a n → a + 2 * n ≤ e → Reached s e (a + 2 * n) p → Reached s e a p

-- an instruction of n units stands at p in the array of c
pub record InstructionOf (s : List ℕ) (c : Code) (p n : ℕ) : Type 0 where
  pub reached : Reached s (stop c) (start c) p
  pub there : Instruction s p n
  pub fits : p + 2 * n ≤ stop c

-- which index an instruction names
pub data Kind : Type 0 where
  strings types fields methods : Kind

-- const-class, check-cast, instance-of; new-instance, new-array, filled-new-array, filled-new-array/range
pub data TypeOpcode (op : ℕ) : Type 0 where
  const_class : op ≡ 0x1c → TypeOpcode op
  check_cast : op ≡ 0x1f → TypeOpcode op
  instance_of : op ≡ 0x20 → TypeOpcode op
  new_or_filled : 0x22 ≤ op → op ≤ 0x25 → TypeOpcode op

-- iinstanceop (iget .. iput-short) and sstaticop (sget .. sput-short)
pub data FieldOpcode (op : ℕ) : Type 0 where
  iinstanceop : 0x52 ≤ op → op ≤ 0x5f → FieldOpcode op
  sstaticop : 0x60 ≤ op → op ≤ 0x6d → FieldOpcode op

-- invoke-kind, invoke-kind/range, invoke-polymorphic and invoke-polymorphic/range
pub data MethodOpcode (op : ℕ) : Type 0 where
  invoke : 0x6e ≤ op → op ≤ 0x72 → MethodOpcode op
  invoke_range : 0x74 ≤ op → op ≤ 0x78 → MethodOpcode op
  invoke_polymorphic : 0xfa ≤ op → op ≤ 0xfb → MethodOpcode op

-- the instruction at p names index i of the kind
pub data Names (s : List ℕ) (p i : ℕ) : Kind → Type 0 where
  const_string : byte s p ≡ 0x1a → le16 s (p + 2) ≡ i → Names s p i strings
  const_string_jumbo : byte s p ≡ 0x1b → le32 s (p + 2) ≡ i → Names s p i strings
  type_index : TypeOpcode (byte s p) → le16 s (p + 2) ≡ i → Names s p i types
  field_index : FieldOpcode (byte s p) → le16 s (p + 2) ≡ i → Names s p i fields
  method_index : MethodOpcode (byte s p) → le16 s (p + 2) ≡ i → Names s p i methods
