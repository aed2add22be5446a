-- The whole case (SPEC, The program refs), 80 bytes, meets the supposition, part by part: so the statement isn't empty. What the operations answer
-- for it is what SPEC prints.
-- Assumes nothing.
use Prim.Native.Nat.{ℕ}
use mathlib.Core.Path.{refl}
use mathlib.Core.List.{List, [], ◌∷◌, ◌++◌}
use lib.Dec.{lit<}
use lib.ListN.{length, replicate}
use Rattle.tinydex.specs.declared.DexHeader.{DexHeader}
use Rattle.dalvik.specs.Numbers.{le16, le32}
use Rattle.dalvik.specs.CodeItem.{Code}
use Rattle.dalvik.specs.Formats.{formats, format_of, length_of}
use Rattle.dalvik.specs.ClassData.{CodesOf}
use Rattle.dalvik.specs.Instructions.{Kind}
use Rattle.dalvik.specs.Instructions.Kind.{strings}
use Rattle.dalvik.specs.Instructions.Reached.{here}
use Rattle.completeness.specs.Completeness.{ArrayOf, Supposed}
use Rattle.completeness.proofs.Outcomes.{Lent, Suffices, ran_of, Finds}
use Rattle.completeness.proofs.Demand.{over_outcomes}
use Rattle.completeness.proofs.Enough.{lent_of, enough_suffices}
use Rattle.completeness.proofs.WorkedFile.{one_method, next, code_of, codes_from, supposed, least, least_enough, header_of, Worked}

unfoldable pub file : List ℕ
file =
    replicate 24 0 ++ (0x20 ∷ replicate 9 0) ++ (0x01 ∷ 0 ∷ 0 ∷ 0x01 ∷ 0x30 ∷ replicate 21 0)
    ++ (0x04 ∷ 0 ∷ 0 ∷ 0 ∷ 0x1a ∷ 0 ∷ 0x05 ∷ 0 ∷ 0x0e ∷ replicate 11 0)

unfoldable pub header : DexHeader
header = header_of 1 1 0

unfoldable pub codes : List Code
codes = codes_from 48 4 1 0

-- ---- the supposition
found_here : CodesOf file 0 0 1 codes
unfolding file codes le32 le16
found_here =
    one_method file 48 4 (refl, refl) (refl, refl, refl, refl, refl, refl, refl) (refl, refl, refl, refl, refl) (refl, refl, refl)

-- const-string, return-void, nop
array : (m : ℕ) → ArrayOf file (code_of 48 4 m)
unfolding file le16 length_of format_of formats
array m = record {
  one_or_more = lit< tt;
  whole = next file 64 (refl, refl, refl) (next file 68 (refl, refl, refl) (next file 70 (refl, refl, refl) (here refl)));
}

pub as_supposed : Supposed file 0 0 1 1 codes
unfolding file codes
as_supposed = supposed file 48 4 1 (refl, refl, refl, refl, refl) found_here array

-- so demand 3 holds of it, in buffers that suffice
pub finds : (kind : Kind) (wanted : List ℕ) (L : Lent) → Suffices file 1 codes kind wanted L
    → Finds file codes kind wanted (ran_of file header kind wanted L)
unfolding header
finds = over_outcomes file header codes as_supposed

-- among them those of just the lengths that are enough for 80 bytes and one method id
finds_enough : (wanted : List ℕ) → Finds file codes strings wanted (ran_of file header strings wanted (lent_of 1 (least (length file) 1 1)))
finds_enough wanted =
    finds strings wanted (lent_of 1 (least (length file) 1 1))
    (enough_suffices as_supposed strings wanted (least (length file) 1 1) (least_enough (length file) 1 1))

-- ---- hits=1, off=64 idx=5, mids=0
unfoldable pub worked : Worked
worked = record {
  file = file;
  header = header;
  built = record { number = 0; from = 64; to = 80; starts = 64 ∷ 72 ∷ []; triples = 4 ∷ 4 ∷ 0 ∷ []; slots = 1 ∷ []; shares = [] };
  hits = record { off = 64; mark = 5 } ∷ [];
  answers = 1 ∷ [];
  slot = 1;
  methods = 0 ∷ [];
}
