-- The slot table (SPEC, Code table; `parse` of insn_locator.rs): one word for each 16-byte bucket of the code region. A slot is
-- 0, method + 1, or 2^31 + the number of a share, which stands for a list of methods.
-- Assumes nothing.
use Rattle.std.specs.Prelude.{ℕ, suc, ◌+◌, ◌-◌, ◌*◌, ◌/◌, ◌^◌, min, max, List, [], ◌∷◌, ◌++◌, cond, length, get_or, replicate, ltb, eqb}
use Rattle.words.specs.Padded.{stretch}
use Rattle.dalvik.specs.CodeItem.{Code}
use Rattle.class_data.specs.Stored.{first_bucket, last_bucket}

abbrev pub lowest : ℕ → List Code → ℕ
lowest b [] = b
lowest b (c ∷ cs) = lowest (min b (first_bucket c)) cs

-- the least first bucket, 0 without code
abbrev pub base_of : List Code → ℕ
base_of [] = 0
base_of (c ∷ cs) = lowest (first_bucket c) cs

-- one more than the greatest last bucket, 0 without code
abbrev pub top_of : List Code → ℕ
top_of [] = 0
top_of (c ∷ cs) = max (suc (last_bucket c)) (top_of cs)

-- the mark of a share
abbrev pub shared : ℕ
shared = 2 ^ 31

-- three words a share: first method, last method of its list, earlier share + 1 or 0. Word i of share k
abbrev pub share_at : List ℕ → ℕ → ℕ → ℕ
share_at ws k i = get_or ws (3 * k + i) 0

-- the words of the share that a method m adds where the start slot holds v: none for a free slot, (m, old) for a single method, the
-- old share with m appended for a share
unfoldable pub joined : ℕ → ℕ → List ℕ → List ℕ
joined v m ws =
    cond (eqb v 0) []
    (cond (ltb v shared) (m ∷ (v - 1) ∷ 0 ∷ [])
    (share_at ws (v - shared) 0 ∷ m ∷ (v - shared + 1) ∷ []))

-- the slot word that stands for v's methods and m
unfoldable pub joined_slot : ℕ → ℕ → List ℕ → ℕ
joined_slot v m ws = cond (eqb v 0) (m + 1) (shared + length ws / 3)

pub record Table : Type 0 where
  pub slots : List ℕ
  pub shares : List ℕ

abbrev pub place_at : ℕ → Code → ℕ → Table → Table
place_at base c v t = record {
  slots = stretch t.slots (first_bucket c - base) (suc (last_bucket c) - first_bucket c) (joined_slot v c.method t.shares);
  shares = t.shares ++ joined v c.method t.shares;
}

-- a code placed: only the start slot is looked at, and the slots from first bucket to last get the word
unfoldable pub place : ℕ → Code → Table → Table
place base c t = place_at base c (get_or t.slots (first_bucket c - base) 0) t

-- the codes placed one after another
abbrev pub table_from : ℕ → Table → List Code → Table
table_from base t [] = t
table_from base t (c ∷ cs) = table_from base (place base c t) cs

unfoldable pub table_of : List Code → Table
table_of cs = table_from (base_of cs) (record { slots = replicate (top_of cs - base_of cs) 0; shares = [] }) cs
