-- Every code lies between the least bucket and the greatest, since both are taken over all codes.
--     base_le, top_lt             a member of the codes
--     base_least, top_greatest    code i
-- Assumes nothing.
use Prim.Native.Nat.{ℕ, zero, suc, ◌≤◌, ◌<◌, min}
use native.Mathlib.Omega.{arith}
use mathlib.Core.Path.{refl}
use mathlib.Core.List.{List, [], ◌∷◌, Memᴰ}
use lib.ListN.{length, get_or}
use Rattle.dalvik.specs.CodeItem.{Code}
use Rattle.class_data.specs.Stored.{first_bucket, last_bucket}
use Rattle.code_table.specs.Slots.{lowest, base_of, top_of}
use Rattle.code_table.specs.Steps.{no_code}

lowest_le : (b : ℕ) (cs : List Code) → lowest b cs ≤ b
lowest_le b [] = omega arith
lowest_le b (c ∷ cs) = omega (arith, lowest_le (min b (first_bucket c)) cs)

lowest_mem : {c : Code} {cs : List Code} → Memᴰ c cs → (b : ℕ) → lowest b cs ≤ first_bucket c
lowest_mem {c} (Memᴰ.head {x = d} {xs = cs} e) b = rw e (omega (arith, lowest_le (min b (first_bucket d)) cs))
lowest_mem {c} (Memᴰ.tail {x = d} m) b = lowest_mem m (min b (first_bucket d))

pub base_le : {c : Code} {cs : List Code} → Memᴰ c cs → base_of cs ≤ first_bucket c
base_le {c} (Memᴰ.head {x = d} {xs = cs} e) = rw e (lowest_le (first_bucket d) cs)
base_le {c} (Memᴰ.tail {x = d} m) = lowest_mem m (first_bucket d)

pub top_lt : {c : Code} {cs : List Code} → Memᴰ c cs → last_bucket c < top_of cs
top_lt {c} (Memᴰ.head {x = d} {xs = cs} e) = rw e (omega arith)
top_lt {c} (Memᴰ.tail {x = d} m) = omega (arith, top_lt m)

-- ---- by its place
member : (cs : List Code) (i : ℕ) → i < length cs → Memᴰ (get_or cs i no_code) cs
member [] i h = absurd (omega arith)
member (c ∷ cs) zero h = Memᴰ.head refl
member (c ∷ cs) (suc i) h = Memᴰ.tail (member cs i (omega arith))

pub base_least : (cs : List Code) (i : ℕ) → i < length cs → base_of cs ≤ first_bucket (get_or cs i no_code)
base_least cs i h = base_le (member cs i h)

pub top_greatest : (cs : List Code) (i : ℕ) → i < length cs → last_bucket (get_or cs i no_code) < top_of cs
top_greatest cs i h = top_lt (member cs i h)
