-- What the supposition says of each array's walk: the array lies in the file and in the region, the walk from its start comes to each of its
-- instructions, and these stand in its buckets, at even offsets.
-- Assumes nothing.
use Prim.Native.Nat.{ℕ, ◌/◌, ◌%◌, ◌≤◌}
use native.Mathlib.Omega.{arith}
use mathlib.Core.Path.{◌≡◌}
use mathlib.Core.List.{List, Memᴰ}
use lib.ListN.{length}
use Rattle.dalvik.specs.CodeItem.{Code, start, stop}
use Rattle.dalvik.specs.Instructions.{InstructionOf}
use Rattle.code_table.specs.RegionEnd.{region_end}
use Rattle.code_table.proofs.RegionEnd.{end_holds, AllInside}
use Rattle.completeness.specs.Completeness.{Supposed}
use Rattle.insn_walk.proofs.Walks.{Steps, steps_le, steps_even}
use Rattle.completeness.proofs.Arrays.{comes_to}
use Rattle.completeness.proofs.Buckets.{InBuckets}
use Rattle.completeness.proofs.Slots.{some_units}
use Rattle.completeness.proofs.Found.{AllTested}

module _ {s : List ℕ} {mapoff classes_off classes methods : ℕ} {codes : List Code} (P : Supposed s mapoff classes_off classes methods codes) where
  -- the class data walk's tests pass
  pub tested : AllTested s methods codes
  tested c m =
      let C = P.each c m in
      let i : stop c ≤ length s = C.inside in
      record { below = C.below; small = C.small; header = omega arith; some_units = some_units P c m; array = i }

  pub all_inside : AllInside (length s) codes
  all_inside c m = (P.each c m).inside

  pub before_end : (d : Code) → Memᴰ d codes → stop d ≤ region_end (length s) codes
  before_end d m = end_holds (length s) codes d m (all_inside d m)

  module _ (d : Code) (m : Memᴰ d codes) (p n : ℕ) (I : InstructionOf s d p n) where
    pub passes : Steps s (start d) p
    passes = comes_to P.bytes (P.each d m).inside I.reached

    pub in_buckets : InBuckets d (p / 16)
    in_buckets = record { from_first = omega (arith, steps_le passes); to_last = omega (arith, I.fits, I.there.some_size) }

    pub at_even : p % 2 ≡ 0
    at_even = steps_even passes (omega (arith, (P.each d m).aligned))
