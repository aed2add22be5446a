-- A file that meets the supposition, whose array ends in the middle of a block with a use, and in the padding right after it, in the same block,
-- stand bytes that read as one more: the array's last instruction is confirmed, the padding is not.
-- Assumes nothing.
use Prim.Native.Nat.{ℕ}
use mathlib.Core.Path.{refl}
use mathlib.Core.List.{List, [], ◌∷◌, ◌++◌}
use lib.Dec.{lit<}
use lib.ListN.{replicate}
use Rattle.tinydex.specs.declared.DexHeader.{DexHeader}
use Rattle.dalvik.specs.Numbers.{le16, le32}
use Rattle.dalvik.specs.CodeItem.{Code}
use Rattle.dalvik.specs.Formats.{formats, format_of, length_of}
use Rattle.dalvik.specs.ClassData.{CodesOf}
use Rattle.dalvik.specs.Instructions.Reached.{here}
use Rattle.completeness.specs.Completeness.{ArrayOf, Supposed}
use Rattle.completeness.proofs.WorkedFile.{one_method, next, code_of, codes_from, supposed, header_of, Worked}

-- as the whole case, but for the array from 64 to 72, return-void, nop and const-string, and the padding, 1a 00 05 00
unfoldable pub file : List ℕ
file =
    replicate 24 0 ++ (0x20 ∷ replicate 9 0) ++ (0x01 ∷ 0 ∷ 0 ∷ 0x01 ∷ 0x30 ∷ replicate 21 0)
    ++ (0x04 ∷ 0 ∷ 0 ∷ 0 ∷ 0x0e ∷ 0 ∷ 0 ∷ 0 ∷ 0x1a ∷ 0 ∷ 0x05 ∷ 0 ∷ []) ++ (0x1a ∷ 0 ∷ 0x05 ∷ 0 ∷ replicate 4 0)

unfoldable pub header : DexHeader
header = header_of 1 1 0

codes : List Code
codes = codes_from 48 4 1 0

found_here : CodesOf file 0 0 1 codes
unfolding file codes le32 le16
found_here =
    one_method file 48 4 (refl, refl) (refl, refl, refl, refl, refl, refl, refl) (refl, refl, refl, refl, refl) (refl, refl, refl)

array : (m : ℕ) → ArrayOf file (code_of 48 4 m)
unfolding file le16 length_of format_of formats
array m = record {
  one_or_more = lit< tt;
  whole = next file 64 (refl, refl, refl) (next file 66 (refl, refl, refl) (next file 68 (refl, refl, refl) (here refl)));
}

as_supposed : Supposed file 0 0 1 1 codes
unfolding file codes
as_supposed = supposed file 48 4 1 (refl, refl, refl, refl, refl) found_here array

-- the use at 68, and at 72 the padding
unfoldable pub worked : Worked
worked = record {
  file = file;
  header = header;
  built = record { number = 0; from = 64; to = 80; starts = 64 ∷ 72 ∷ []; triples = 4 ∷ 4 ∷ 0 ∷ []; slots = 1 ∷ []; shares = [] };
  hits = record { off = 68; mark = 5 } ∷ record { off = 72; mark = 5 } ∷ [];
  answers = 1 ∷ 0 ∷ [];
  slot = 1;
  methods = 0 ∷ [];
}
