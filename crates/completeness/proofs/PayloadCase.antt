-- Two files with payloads among their instructions, which meet the supposition. In one all three kinds stand between uses, among these a jumbo one
-- after a sparse switch; in the other the array begins with a payload. Data in a payload of each read as a const-string of the wanted index, and
-- are not confirmed.
-- Assumes nothing.
use Prim.Native.Nat.{ℕ}
use mathlib.Core.Path.{refl}
use mathlib.Core.List.{List, [], ◌∷◌, ◌++◌}
use lib.Dec.{lit<, lit≤}
use lib.ListN.{replicate}
use Rattle.tinydex.specs.declared.DexHeader.{DexHeader}
use Rattle.dalvik.specs.Numbers.{le16, le32}
use Rattle.dalvik.specs.CodeItem.{Code}
use Rattle.dalvik.specs.Formats.{formats, format_of, length_of}
use Rattle.dalvik.specs.ClassData.{CodesOf}
use Rattle.dalvik.specs.Instructions.Payload.{packed_switch, sparse_switch, fill_array_data}
use Rattle.dalvik.specs.Instructions.Reached.{here, past_payload}
use Rattle.code_item_scan.specs.Scan.{Hit}
use Rattle.completeness.specs.Completeness.{ArrayOf, Supposed}
use Rattle.completeness.proofs.WorkedFile.{one_method, next, code_of, codes_from, supposed, header_of, Worked}

-- as the whole case up to the code item's last four bytes, the length of its array from 64 on
abbrev front : List ℕ
front = replicate 24 0 ++ (0x20 ∷ replicate 9 0) ++ (0x01 ∷ 0 ∷ 0 ∷ 0x01 ∷ 0x30 ∷ replicate 21 0)

unfoldable pub header : DexHeader
header = header_of 1 1 0

unfoldable pub hit : ℕ → Hit
hit off = record { off = off; mark = 5 }

-- ---- const-string, packed switch, const-string, sparse switch, const-string/jumbo, nop, array data, const-string, return-void
unfoldable pub file : List ℕ
file =
    front ++ (30 ∷ 0 ∷ 0 ∷ 0 ∷ [])
    ++ (0x1a ∷ 0 ∷ 0x05 ∷ 0 ∷ []) ++ (0 ∷ 0x01 ∷ 1 ∷ 0 ∷ replicate 4 0 ++ (2 ∷ 0 ∷ 0 ∷ 0 ∷ []))
    ++ (0x1a ∷ 0 ∷ 0x05 ∷ 0 ∷ []) ++ (0 ∷ 0x02 ∷ 1 ∷ 0 ∷ replicate 4 0 ++ (2 ∷ 0 ∷ 0 ∷ 0 ∷ []))
    ++ (0x1b ∷ 0 ∷ 0x05 ∷ 0 ∷ 0 ∷ 0 ∷ 0 ∷ 0 ∷ []) ++ (0 ∷ 0x03 ∷ 1 ∷ 0 ∷ 5 ∷ 0 ∷ 0 ∷ 0 ∷ 0x1a ∷ 0 ∷ 0x05 ∷ 0 ∷ 7 ∷ 0 ∷ [])
    ++ (0x1a ∷ 0 ∷ 0x05 ∷ 0 ∷ 0x0e ∷ 0 ∷ [])

codes : List Code
codes = codes_from 48 30 1 0

found_here : CodesOf file 0 0 1 codes
unfolding file codes le32 le16
found_here =
    one_method file 48 30 (refl, refl) (refl, refl, refl, refl, refl, refl, refl) (refl, refl, refl, refl, refl) (refl, refl, refl)

array : (m : ℕ) → ArrayOf file (code_of 48 30 m)
unfolding file le32 le16 length_of format_of formats
array m = record {
  one_or_more = lit< tt;
  whole =
      next file 64 (refl, refl, refl)
      (past_payload {a = 68} (packed_switch refl) (lit≤ tt)
      (next file 80 (refl, refl, refl)
      (past_payload {a = 84} (sparse_switch refl) (lit≤ tt)
      (next file 96 (refl, refl, refl)
      (next file 102 (refl, refl, refl)
      (past_payload {a = 104} (fill_array_data refl) (lit≤ tt)
      (next file 118 (refl, refl, refl) (next file 122 (refl, refl, refl) (here refl)))))))));
}

as_supposed : Supposed file 0 0 1 1 codes
unfolding file codes
as_supposed = supposed file 48 30 1 (refl, refl, refl, refl, refl) found_here array

-- the uses, and at 112 the data
unfoldable pub worked : Worked
worked = record {
  file = file;
  header = header;
  built = record { number = 0; from = 64; to = 124; starts = 64 ∷ 124 ∷ []; triples = 4 ∷ 7 ∷ 0 ∷ []; slots = 1 ∷ 1 ∷ 1 ∷ 1 ∷ []; shares = [] };
  hits = hit 64 ∷ hit 80 ∷ hit 96 ∷ hit 112 ∷ hit 118 ∷ [];
  answers = 1 ∷ 1 ∷ 1 ∷ 0 ∷ 1 ∷ [];
  slot = 1;
  methods = 0 ∷ [];
}

-- ---- array data, const-string, return-void
unfoldable pub first_file : List ℕ
first_file =
    front ++ (9 ∷ 0 ∷ 0 ∷ 0 ∷ [])
    ++ (0 ∷ 0x03 ∷ 2 ∷ 0 ∷ 2 ∷ 0 ∷ 0 ∷ 0 ∷ 0x1a ∷ 0 ∷ 0x05 ∷ 0 ∷ []) ++ (0x1a ∷ 0 ∷ 0x05 ∷ 0 ∷ 0x0e ∷ 0 ∷ [])

first_codes : List Code
first_codes = codes_from 48 9 1 0

first_found : CodesOf first_file 0 0 1 first_codes
unfolding first_file first_codes le32 le16
first_found =
    one_method first_file 48 9 (refl, refl) (refl, refl, refl, refl, refl, refl, refl) (refl, refl, refl, refl, refl) (refl, refl, refl)

first_array : (m : ℕ) → ArrayOf first_file (code_of 48 9 m)
unfolding first_file le32 le16 length_of format_of formats
first_array m = record {
  one_or_more = lit< tt;
  whole =
      past_payload {a = 64} (fill_array_data refl) (lit≤ tt)
      (next first_file 76 (refl, refl, refl) (next first_file 80 (refl, refl, refl) (here refl)));
}

first_as_supposed : Supposed first_file 0 0 1 1 first_codes
unfolding first_file first_codes
first_as_supposed = supposed first_file 48 9 1 (refl, refl, refl, refl, refl) first_found first_array

-- at 72 the data, and the use
unfoldable pub first_worked : Worked
first_worked = record {
  file = first_file;
  header = header;
  built = record { number = 0; from = 64; to = 82; starts = 64 ∷ 82 ∷ []; triples = 4 ∷ 5 ∷ 0 ∷ []; slots = 1 ∷ 1 ∷ []; shares = [] };
  hits = hit 72 ∷ hit 76 ∷ [];
  answers = 0 ∷ 1 ∷ [];
  slot = 1;
  methods = 0 ∷ [];
}
