-- Two files that end with their last code item, in the middle of a block, and whose last instruction is a use: const-string in one,
-- const-string/jumbo in the other. Both meet the supposition, and the operations give the use.
-- Assumes nothing.
use Prim.Native.Nat.{ℕ}
use mathlib.Core.Path.{refl}
use mathlib.Core.List.{List, [], ◌∷◌, ◌++◌}
use lib.Dec.{lit<}
use lib.ListN.{replicate}
use Rattle.tinydex.specs.declared.DexHeader.{DexHeader}
use Rattle.dalvik.specs.Numbers.{le16, le32}
use Rattle.dalvik.specs.CodeItem.{Code}
use Rattle.dalvik.specs.Formats.{formats, format_of, length_of}
use Rattle.dalvik.specs.ClassData.{CodesOf}
use Rattle.dalvik.specs.Instructions.Reached.{here}
use Rattle.completeness.specs.Completeness.{ArrayOf, Supposed}
use Rattle.completeness.proofs.WorkedFile.{one_method, next, code_of, codes_from, supposed, header_of, Worked}

-- as the whole case, but for the array at 64, of four units, with which the file ends: return-void and six bytes
abbrev ending : ℕ → ℕ → ℕ → ℕ → ℕ → ℕ → List ℕ
ending a b c d e f =
    replicate 24 0 ++ (0x20 ∷ replicate 9 0) ++ (0x01 ∷ 0 ∷ 0 ∷ 0x01 ∷ 0x30 ∷ replicate 21 0)
    ++ (0x04 ∷ 0 ∷ 0 ∷ 0 ∷ 0x0e ∷ 0 ∷ a ∷ b ∷ c ∷ d ∷ e ∷ f ∷ [])

unfoldable pub header : DexHeader
header = header_of 1 1 0

codes : List Code
codes = codes_from 48 4 1 0

found_here : (a b c d e f : ℕ) → CodesOf (ending a b c d e f) 0 0 1 codes
unfolding codes le32 le16
found_here a b c d e f =
    one_method (ending a b c d e f) 48 4 (refl, refl) (refl, refl, refl, refl, refl, refl, refl) (refl, refl, refl, refl, refl) (refl, refl, refl)

-- the region ends with the file, and the use, at this offset, is the only entry
abbrev worked_at : ℕ → List ℕ → Worked
worked_at off file = record {
  file = file;
  header = header;
  built = record { number = 0; from = 64; to = 72; starts = 64 ∷ 72 ∷ []; triples = 4 ∷ 4 ∷ 0 ∷ []; slots = 1 ∷ []; shares = [] };
  hits = record { off = off; mark = 5 } ∷ [];
  answers = 1 ∷ [];
  slot = 1;
  methods = 0 ∷ [];
}

-- ---- nop, const-string
unfoldable pub file : List ℕ
file = ending 0 0 0x1a 0 0x05 0

array : (m : ℕ) → ArrayOf file (code_of 48 4 m)
unfolding file le16 length_of format_of formats
array m = record {
  one_or_more = lit< tt;
  whole = next file 64 (refl, refl, refl) (next file 66 (refl, refl, refl) (next file 68 (refl, refl, refl) (here refl)));
}

as_supposed : Supposed file 0 0 1 1 codes
unfolding file codes
as_supposed = supposed file 48 4 1 (refl, refl, refl, refl, refl) (found_here 0 0 0x1a 0 0x05 0) array

unfoldable pub worked : Worked
worked = worked_at 68 file

-- ---- const-string/jumbo
unfoldable pub jumbo_file : List ℕ
jumbo_file = ending 0x1b 0 0x05 0 0 0

jumbo_array : (m : ℕ) → ArrayOf jumbo_file (code_of 48 4 m)
unfolding jumbo_file le16 length_of format_of formats
jumbo_array m = record {
  one_or_more = lit< tt;
  whole = next jumbo_file 64 (refl, refl, refl) (next jumbo_file 66 (refl, refl, refl) (here refl));
}

jumbo_as_supposed : Supposed jumbo_file 0 0 1 1 codes
unfolding jumbo_file codes
jumbo_as_supposed = supposed jumbo_file 48 4 1 (refl, refl, refl, refl, refl) (found_here 0x1b 0 0x05 0 0 0) jumbo_array

unfoldable pub jumbo_worked : Worked
jumbo_worked = worked_at 66 jumbo_file
