-- The first place of a stretch that is of a kind, which a place's bytes decide. `First` has one r: `first_unique` of proofs/Firsts.antt.
-- Assumes nothing.
use Rattle.std.specs.Prelude.{ℕ, ◌+◌, ◌≤◌, ◌<◌, ◌≡◌, ◌⊎◌, List, get_or}

-- the byte x is a or b
abbrev pub Is : ℕ → ℕ → ℕ → Type 0
Is a b x = (x ≡ a) ⊎ (x ≡ b)

-- .. and so is the byte at k
abbrev pub Either : ℕ → ℕ → List ℕ → ℕ → Type 0
Either a b s k = Is a b (get_or s k 0)

-- the byte at k is a, and the one d after it is b
abbrev pub Both : ℕ → ℕ → ℕ → List ℕ → ℕ → Type 0
Both a b d s k = (get_or s k 0 ≡ a) × (get_or s (k + d) 0 ≡ b)

-- r is the first place from `from` on and before `to` that is of the kind P, and `to` where there is none
pub record First (P : ℕ → Type 0) (from to r : ℕ) : Type 0 where
  pub inside : r ≤ to
  pub after : r < to → from ≤ r
  pub here : r < to → P r
  pub none_before : (k : ℕ) → from ≤ k → k < r → P k → ⊥
