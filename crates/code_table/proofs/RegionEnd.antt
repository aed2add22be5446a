-- Laws of the region's end, which open its definition; nothing else does. The end is the smaller of two numbers, and an array that lies in the
-- file ends before both.
--     end_inside           never past the file's end
--     end_holds            an array that lies in the file lies before it
--     end_least            the file's end, or that of the greatest bucket
--     base_end             never before the region's first byte
--     slots_few            its buckets are among those from 1 up to the file's last
-- Assumes nothing.
use Prim.Native.Nat.{ℕ, ◌+◌, ◌-◌, ◌*◌, ◌/◌, ◌≤◌, min}
use native.Mathlib.Omega.{arith}
use mathlib.Core.Path.{◌≡◌, refl}
use mathlib.Core.List.{List, [], ◌∷◌, Memᴰ}
use Rattle.dalvik.specs.CodeItem.{Code, stop}
use Rattle.class_data.specs.Stored.{first_bucket}
use Rattle.code_table.specs.Slots.{lowest, base_of, top_of}
use Rattle.code_table.specs.RegionEnd.{region_end}
use Rattle.code_table.proofs.Buckets.{base_le, top_lt}

module _ (len : ℕ) (cs : List Code) where
  pub end_inside : region_end len cs ≤ len
  unfolding region_end
  end_inside = omega arith

  pub end_holds : (c : Code) → Memᴰ c cs → stop c ≤ len → stop c ≤ region_end len cs
  unfolding region_end
  end_holds c m h = omega (arith, top_lt m)

  pub end_least : (top : ℕ) → top ≡ top_of cs → min len (top * 16) ≡ region_end len cs
  unfolding region_end
  end_least top e = omega arith

-- ---- of codes that lie in the file
abbrev pub AllInside : ℕ → List Code → Type 0
AllInside len cs = (c : Code) → Memᴰ c cs → stop c ≤ len

module _ (len : ℕ) where
  pub base_end : (cs : List Code) → AllInside len cs → base_of cs * 16 ≤ region_end len cs
  base_end [] f = omega arith
  base_end (c ∷ cs) f =
      let m : Memᴰ c (c ∷ cs) = mathlib.Core.List.Memᴰ.head refl in
      omega (arith, base_le m, end_holds len (c ∷ cs) c m (f c m))

  -- an array begins after 16 header bytes
  lowest_one : (b : ℕ) (cs : List Code) → 1 ≤ b → 1 ≤ lowest b cs
  lowest_one b [] h = h
  lowest_one b (c ∷ cs) h = lowest_one (min b (first_bucket c)) cs (omega arith)

  top_inside : (cs : List Code) → AllInside len cs → top_of cs ≤ len / 16 + 1
  top_inside [] f = omega arith
  top_inside (c ∷ cs) f = omega (arith, f c (mathlib.Core.List.Memᴰ.head refl), top_inside cs (λ d m. f d (mathlib.Core.List.Memᴰ.tail m)))

  pub slots_few : (cs : List Code) → AllInside len cs → top_of cs - base_of cs ≤ len / 16
  slots_few [] f = omega arith
  slots_few (c ∷ cs) f = omega (arith, top_inside (c ∷ cs) f, lowest_one (first_bucket c) cs (omega arith))
