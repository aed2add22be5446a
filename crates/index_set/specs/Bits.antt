-- A set of indices as bits of words: index x has bit x % 64 of word x / 64, and an index past the words is not held.
-- The laws are in proofs/Bits.antt; callers cite them.
-- Assumes nothing.
use Rattle.std.specs.Prelude.{ℕ, zero, suc, ◌+◌, ◌*◌, ◌/◌, ◌%◌, ◌^◌, min, ◌≡◌, Bool, cond, ◌&&◌, ◌||◌, List, [], ◌∷◌, length, get_or, ltb, eqb}

-- bit k of a word
abbrev pub bit_of : ℕ → ℕ → ℕ
bit_of w k = w / 2 ^ k % 2

unfoldable pub is_held : List ℕ → ℕ → Bool
is_held bits x = eqb (bit_of (get_or bits (x / 64) 0) (x % 64)) 1

-- x joins the set if the words have a bit for it, which r says; no other index is touched
pub record Adds (x : ℕ) (before after : List ℕ) (r : Bool) : Type 0 where
  pub inside : r ≡ ltb x (64 * length before)
  pub long : length after ≡ length before
  pub held : (y : ℕ) → is_held after y ≡ (is_held before y || (r && eqb y x))

-- the indices held among the k from x on, rising
unfoldable pub held_from : ℕ → List ℕ → ℕ → List ℕ
held_from zero bits x = []
held_from (suc k) bits x = cond (is_held bits x) (x ∷ held_from k bits (x + 1)) (held_from k bits (x + 1))

-- the indices held that fit 32 bits
abbrev pub indices : List ℕ → List ℕ
indices bits = held_from (64 * min (length bits) 67108864) bits 0
