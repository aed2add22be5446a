-- A walk over instructions and payloads (SPEC, Locate; `insn_verify` of insn_locator.rs): step by step from a place until a target is met
-- or passed. The step alone says what stands at a place; proofs/Steps.antt and proofs/Walks.antt have the laws that others cite, and
-- proofs/Published.antt that a step is the published length.
-- Assumes nothing.
use Rattle.std.specs.Prelude.{ℕ, zero, suc, ◌+◌, ◌-◌, ◌*◌, ◌/◌, List, Bool, false, cond, ◌&&◌, length, ltb, leb, eqb, Option, None, Some}
use Rattle.dalvik.specs.Numbers.{byte, le16, le32}
use Rattle.opcodes.specs.Length.{units_of}

-- the length of a payload in units, by the high byte of the unit that opens it: of a packed switch, a sparse switch, or array data of a width
-- and a size; 0 for any other high byte
abbrev pub units_by : List ℕ → ℕ → ℕ → ℕ
units_by s p high =
    cond (eqb high 1) (le16 s (p + 2) * 2 + 4)
    (cond (eqb high 2) (le16 s (p + 2) * 4 + 2)
    (cond (eqb high 3) ((le32 s (p + 4) * le16 s (p + 2) + 1) / 2 + 4) 0))

-- the length of the payload that opens at p, 0 where none does: the unit's low byte is 0, and its high byte, which past the end reads 0,
-- is inside
unfoldable pub payload_units : List ℕ → ℕ → ℕ
payload_units s p = cond (eqb (byte s p) 0) (units_by s p (byte s (p + 1))) 0

-- the offset n units after p, where that is a step
abbrev pub past : Bool → ℕ → ℕ → Option ℕ
past b p n = cond b (Some (p + 2 * n)) None

-- the offset after what stands at p. A payload is whole inside the file, or the step fails: its length covers its header, so that a header cut
-- off passes the end too. Of an instruction the opcode is inside, and has a length
unfoldable pub step : List ℕ → ℕ → Option ℕ
step s p =
    cond (ltb 0 (payload_units s p))
    (past (leb (p + 2 * payload_units s p) (length s)) p (payload_units s p))
    (past (ltb p (length s) && ltb 0 (units_of (byte s p))) p (units_of (byte s p)))

-- what a walk comes to: whether it lands on its target exactly, and how many steps it took, one that failed counted too
pub record Walked : Type 0 where
  pub lands : Bool
  pub steps : ℕ

-- at the target or past it
abbrev pub arrived : ℕ → ℕ → Walked
arrived p t = record { lands = eqb p t; steps = 0 }

-- a step fails
abbrev pub failed : Walked
failed = record { lands = false; steps = 1 }

-- k steps before a walk
abbrev pub after_steps : ℕ → Walked → Walked
after_steps k w = record { lands = w.lands; steps = k + w.steps }

-- a walk goes on after its first step, or fails
abbrev pub on_step : Option ℕ → (ℕ → Walked) → Walked
on_step None g = failed
on_step (Some q) g = after_steps 1 (g q)

-- a walk of at most n steps from p to t
unfoldable pub walk_in : ℕ → List ℕ → ℕ → ℕ → Walked
walk_in zero s p t = arrived p t
walk_in (suc n) s p t = cond (ltb p t) (on_step (step s p) (λ q. walk_in n s q t)) (arrived p t)

-- a step goes forward, so the bytes between bound the steps
unfoldable pub walk : List ℕ → ℕ → ℕ → Walked
walk s p t = walk_in (t - p) s p t

abbrev pub lands : List ℕ → ℕ → ℕ → Bool
lands s p t = (walk s p t).lands
