-- What the readers answer (SPEC, Reads and numbers): 7 bits a byte, low first, up to a byte below 128; at most five bytes, and a fifth of
-- at most 0x0f. So a number is read exactly where a published one stands ("Dalvik Executable format", "LEB128"), which each reader's
-- contract says as well.
-- Assumes nothing.
use Rattle.std.specs.Prelude.{ℕ, zero, suc, ◌+◌, ◌*◌, ◌-◌, ◌≡◌, List, cond, length, ltb, Result, Ok, Err}
use Rattle.dalvik.specs.Numbers.{byte, Uleb128}
use Rattle.refusal.specs.declared.Refusal.{Refusal}
use Rattle.refusal.specs.declared.Refusal.TheVariants.{NumberOutside, NumberTooLong}
use Rattle.leb128.specs.declared.Uleb.{Uleb}

-- a number of value v that has n bytes
abbrev pub uleb_of : ℕ → ℕ → Uleb
uleb_of v n = record { value = v; len = n }

-- r, where there is a byte at i; 6: it is outside the file
abbrev pub with_byte : List ℕ → ℕ → Result Uleb Refusal → Result Uleb Refusal
with_byte s i r = cond (ltb i (length s)) r (Err NumberOutside)

-- a byte b of 128 or more, and the number after it: the low 7 bits are those of b
abbrev pub carry : ℕ → Result Uleb Refusal → Result Uleb Refusal
carry b (Ok n) = Ok (uleb_of (b - 128 + 128 * n.value) (1 + n.len))
carry b (Err r) = Err r

-- the number at i, of at most k bytes after its first; 16: the last byte that it may have is above 0x0f
unfoldable pub uleb : ℕ → List ℕ → ℕ → Result Uleb Refusal
uleb zero s i = with_byte s i (cond (ltb (byte s i) 16) (Ok (uleb_of (byte s i) 1)) (Err NumberTooLong))
uleb (suc k) s i = with_byte s i (cond (ltb (byte s i) 128) (Ok (uleb_of (byte s i) 1)) (carry (byte s i) (uleb k s (i + 1))))

unfoldable pub uleb_fast : List ℕ → ℕ → Result Uleb Refusal
uleb_fast s i = uleb 4 s i

-- how many bytes a number has
abbrev pub bytes_of : Result Uleb Refusal → Result ℕ Refusal
bytes_of (Ok n) = Ok n.len
bytes_of (Err r) = Err r

unfoldable pub uleb_len : List ℕ → ℕ → Result ℕ Refusal
uleb_len s i = bytes_of (uleb_fast s i)

-- ---- against the published form: accepted is what stands there, and what stands there is accepted
pub record Published (s : List ℕ) (i : ℕ) (r : Result Uleb Refusal) : Type 0 where
  pub stands : (v n : ℕ) → Ok (uleb_of v n) ≡ r → Uleb128 s i v (i + n)
  pub accepted : (v e : ℕ) → Uleb128 s i v e → r ≡ Ok (uleb_of v (e - i))

pub record PublishedLen (s : List ℕ) (i : ℕ) (r : Result ℕ Refusal) : Type 0 where
  pub stands : (n : ℕ) → Ok n ≡ r → (v : ℕ) × Uleb128 s i v (i + n)
  pub accepted : (v e : ℕ) → Uleb128 s i v e → r ≡ Ok (e - i)

-- ---- going on after a read: a of the refusal, or g of what was read
abbrev pub on_uleb {ℓ} : {A : Type ℓ} → Result Uleb Refusal → (Refusal → A) → (ℕ → ℕ → A) → A
on_uleb (Ok n) a g = g n.value n.len
on_uleb (Err r) a g = a r
