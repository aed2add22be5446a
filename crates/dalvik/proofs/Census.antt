-- A checksum of the format table: how many opcodes have each length. An entry of another length changes one of the counts.
-- Assumes nothing.
use Prim.Native.Nat.{ℕ, ◌+◌}
use mathlib.Core.Path.{◌≡◌, refl}
use mathlib.Core.List.{List, [], ◌∷◌}
use mathlib.Core.Bool.{cond}
use lib.ListN.{length}
use lib.Dec.{eqb}
use Rattle.dalvik.specs.Formats.{Format, formats, format_units}

-- how many of the formats have n units
abbrev count : ℕ → List Format → ℕ
count n [] = 0
count n (f ∷ fs) = cond (eqb (format_units f) n) 1 0 + count n fs

record Census : Type 0 where
  all : length formats ≡ 256
  unused : count 0 formats ≡ 32
  one_unit : count 1 formats ≡ 71
  two_units : count 2 formats ≡ 126
  three_units : count 3 formats ≡ 24
  four_units : count 4 formats ≡ 2
  five_units : count 5 formats ≡ 1

census : Census
unfolding formats
census = record { all = refl; unused = refl; one_unit = refl; two_units = refl; three_units = refl; four_units = refl; five_units = refl }
