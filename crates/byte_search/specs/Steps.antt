-- What the inner steps of the searches yield: a block of 16 places at a time, and then place by place.
-- Assumes nothing.
use Rattle.std.specs.Prelude.{ℕ, ◌+◌, ◌≤◌, ◌<◌, ◌≡◌, ◌⊎◌}

-- x where it counts, else y
pub record Lane (x y : ℕ) (Counts : Type 0) (r : ℕ) : Type 0 where
  pub cases : ((r ≡ x) × Counts) ⊎ ((r ≡ y) × (Counts → ⊥))

-- one of the n places from p on is of the kind
pub record One (P : ℕ → Type 0) (p n : ℕ) : Type 0 where
  pub at : ℕ
  pub below : at < n
  pub is : P (p + at)

-- r is 0 where none of the n places from p on is of the kind, and only there
pub record Tested (P : ℕ → Type 0) (p n r : ℕ) : Type 0 where
  pub none : r ≡ 0 → (k : ℕ) → k < n → P (p + k) → ⊥
  pub one : 0 < r → One P p n

-- nothing from `from` up to r is of the kind
pub record Passed (P : ℕ → Type 0) (from to r : ℕ) : Type 0 where
  pub onward : from ≤ r
  pub inside : r ≤ to
  pub none_before : (k : ℕ) → from ≤ k → k < r → P k → ⊥

-- .. and from r on less than a block is left, or one of the next 16 places is
pub record Blocks (P : ℕ → Type 0) (from to r : ℕ) : Type 0 where
  pub passed : Passed P from to r
  pub next : (to < r + 16) ⊎ One P r 16
