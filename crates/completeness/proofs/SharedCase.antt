-- A second file that meets the supposition, for the parts that the whole case lacks: class data by the map, a field, direct and virtual methods,
-- three methods with one code, const-string/jumbo, a payload, and an entry after the array.
-- Assumes nothing.
use Prim.Native.Nat.{ℕ}
use native.Mathlib.Omega.{arith}
use mathlib.Core.Path.{refl}
use mathlib.Core.List.{List, [], ◌∷◌, ◌++◌}
use lib.Dec.{lit<, lit≤}
use lib.ListN.{replicate}
use Rattle.tinydex.specs.declared.DexHeader.{DexHeader}
use Rattle.dalvik.specs.Numbers.{le16, le32, Uleb128s}
use Rattle.dalvik.specs.MapList.ClassDataEntry.{this}
use Rattle.dalvik.specs.CodeItem.{Code}
use Rattle.dalvik.specs.Formats.{formats, format_of, length_of}
use Rattle.dalvik.specs.ClassData.{EncodedMethods, Successive, CodesOf}
use Rattle.dalvik.specs.ClassData.CodesOf.{by_map}
use Rattle.dalvik.specs.Instructions.Payload.{packed_switch}
use Rattle.dalvik.specs.Instructions.Reached.{here, past_payload}
use Rattle.completeness.specs.Completeness.{ArrayOf, Supposed}
use Rattle.completeness.proofs.WorkedFile.{one_byte, coded, class_data, next, code_of, codes_from, supposed, header_of, Worked}

-- map at 4, class data at 20, code item at 36, its array from 52 to 72, and after it 1a 00 05 00
unfoldable pub file : List ℕ
file =
    (0 ∷ 0 ∷ 0 ∷ 0 ∷ 1 ∷ 0 ∷ 0 ∷ 0 ∷ 0 ∷ 0x20 ∷ 0 ∷ 0 ∷ 1 ∷ 0 ∷ 0 ∷ 0 ∷ 20 ∷ 0 ∷ 0 ∷ 0 ∷ [])
    ++ (0 ∷ 1 ∷ 2 ∷ 1 ∷ 0 ∷ 1 ∷ 0 ∷ 1 ∷ 36 ∷ 1 ∷ 1 ∷ 36 ∷ 2 ∷ 1 ∷ 36 ∷ 0 ∷ replicate 12 0) ++ (10 ∷ 0 ∷ 0 ∷ 0 ∷ [])
    ++ (0x1a ∷ 0 ∷ 0x05 ∷ 0 ∷ 0x1b ∷ 0 ∷ 0x05 ∷ 0 ∷ 0 ∷ 0 ∷ 0x0e ∷ 0 ∷ 0 ∷ 0x01 ∷ replicate 6 0) ++ (0x1a ∷ 0 ∷ 0x05 ∷ 0 ∷ replicate 4 0)

unfoldable pub header : DexHeader
header = header_of 3 0 4

codes : List Code
codes = codes_from 36 10 3 0

-- ---- the supposition
found_here : CodesOf file 4 0 0 codes
unfolding file codes le32 le16
found_here =
    by_map {e = 8} (λ q. omega arith) (lit≤ tt) (this (lit≤ tt) refl)
    (Successive.one_more {cs = codes} {ds = []}
    (class_data file 20 (refl, refl, refl, refl)
    (Uleb128s.one_more (one_byte file 24 refl) (Uleb128s.one_more (one_byte file 25 refl) Uleb128s.no_more))
    (coded file 26 (refl, refl, refl, refl, refl) (coded file 29 (refl, refl, refl, refl, refl) EncodedMethods.no_more))
    (coded file 32 (refl, refl, refl, refl, refl) EncodedMethods.no_more))
    Successive.no_more)

-- const-string, const-string/jumbo, return-void, and a packed-switch payload of size 0
array : (m : ℕ) → ArrayOf file (code_of 36 10 m)
unfolding file le16 length_of format_of formats
array m = record {
  one_or_more = lit< tt;
  whole = next file 52 (refl, refl, refl) (next file 56 (refl, refl, refl) (next file 62 (refl, refl, refl) (past_payload {a = 64} (packed_switch refl) (lit≤ tt) (here refl))));
}

as_supposed : Supposed file 4 0 0 3 codes
unfolding file codes
as_supposed = supposed file 36 10 3 (refl, refl, refl, refl, refl) found_here array

-- ---- const-string, const-string/jumbo, and the entry after the array, which is not confirmed; second found, first found, then the rest
unfoldable pub worked : Worked
worked = record {
  file = file;
  header = header;
  built = record {
    number = 0;
    from = 48;
    to = 80;
    starts = 52 ∷ 72 ∷ 52 ∷ 72 ∷ 52 ∷ 72 ∷ [];
    triples = 3 ∷ 4 ∷ 0 ∷ 3 ∷ 4 ∷ 1 ∷ 3 ∷ 4 ∷ 2 ∷ [];
    slots = 2147483649 ∷ 2147483649 ∷ [];
    shares = 1 ∷ 0 ∷ 0 ∷ 1 ∷ 2 ∷ 1 ∷ [];
  };
  hits = record { off = 52; mark = 5 } ∷ record { off = 56; mark = 5 } ∷ record { off = 72; mark = 5 } ∷ [];
  answers = 2147483649 ∷ 2147483649 ∷ 0 ∷ [];
  slot = 2147483649;
  methods = 1 ∷ 0 ∷ 2 ∷ [];
}
