-- The buckets of an array are the blocks that hold a byte of it. Those of different code items are disjoint, since 16 header bytes stand
-- between two arrays.
-- Assumes nothing.
use Prim.Native.Nat.{ℕ, ◌≤◌, ◌<◌}
use native.Mathlib.Omega.{arith}
use mathlib.Core.Path.{◌≡◌, refl}
use mathlib.Core.Logic.{◌⊎◌, inl, inr, ⊎_elim}
use mathlib.Core.List.Memᴰ
use mathlib.Core.List.{List, [], ◌∷◌, Memᴰ}
use Rattle.dalvik.specs.CodeItem.{Code, stop}
use Rattle.class_data.specs.Stored.{first_bucket, last_bucket}
use Rattle.completeness.specs.Completeness.{CoincideOrApart}
use Rattle.completeness.specs.Completeness.CoincideOrApart.{coincide, ends_before, begins_after}
use Rattle.completeness.proofs.Tests.{lt_or_le}

-- b is a bucket of the array of c
pub record InBuckets (c : Code) (b : ℕ) : Type 0 where
  pub from_first : first_bucket c ≤ b
  pub to_last : b ≤ last_bucket c

-- ---- of two arrays
apart_buckets : (c d : Code) (b : ℕ) → stop c ≤ d.off → InBuckets c b → InBuckets d b → ⊥
apart_buckets c d b h i j = omega (arith, i.to_last, j.from_first)

-- two arrays with a bucket in common are one
pub one_item : (c d : Code) (b : ℕ) → CoincideOrApart c d → InBuckets c b → InBuckets d b → c.off ≡ d.off
one_item c d b (coincide e u) i j = e
one_item c d b (ends_before h) i j = absurd (apart_buckets c d b h i j)
one_item c d b (begins_after h) i j = absurd (apart_buckets d c b h j i)

-- two code items at one offset are one
pub one_offset : (c d : Code) → CoincideOrApart c d → c.off ≡ d.off → c.units ≡ d.units
one_offset c d (coincide e u) o = u
one_offset c d (ends_before h) o = absurd (omega arith)
one_offset c d (begins_after h) o = absurd (omega arith)

-- whose bucket it is
pub owner_of : (cs : List Code) (b : ℕ) → ((d : Code) × Memᴰ d cs × InBuckets d b) ⊎ ((d : Code) → Memᴰ d cs → InBuckets d b → ⊥)
owner_of [] b = inr (λ d m i. Memᴰ.not-nil m)
owner_of (c ∷ cs) b =
    ⊎_elim
    (λ (f : b < first_bucket c). further (owner_of cs b) (λ i. omega (arith, i.from_first)))
    (λ (f : first_bucket c ≤ b).
    ⊎_elim
    (λ (l : last_bucket c < b). further (owner_of cs b) (λ i. omega (arith, i.to_last)))
    (λ (l : b ≤ last_bucket c). inl (c, Memᴰ.head refl, record { from_first = f; to_last = l }))
    (lt_or_le (last_bucket c) b))
    (lt_or_le b (first_bucket c))
  where
    further : ((d : Code) × Memᴰ d cs × InBuckets d b) ⊎ ((d : Code) → Memᴰ d cs → InBuckets d b → ⊥)
        → (InBuckets c b → ⊥) → ((d : Code) × Memᴰ d (c ∷ cs) × InBuckets d b) ⊎ ((d : Code) → Memᴰ d (c ∷ cs) → InBuckets d b → ⊥)
    further (inl r) f = inl (r.0, Memᴰ.tail r.1, r.2)
    further (inr g) f = inr (λ d m i. ⊎_elim (λ (e : d ≡ c). f (rw e at i)) (λ k. g d k i) (Memᴰ.cases_cons m))
