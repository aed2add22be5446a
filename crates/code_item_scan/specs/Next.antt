-- Hits one at a time: what next_hit tells of a region, for whichever indices the set that it is lent holds.
-- Assumes nothing.
use Rattle.std.specs.Prelude.{ℕ, ◌*◌, ◌≤◌, ◌<◌, ◌≡◌, Bool, false, cond, ◌&&◌, List, [], ◌∷◌, length, get_or, ltb, leb, Option, Some, None}
use Rattle.dalvik.specs.Instructions.{Kind}
use Rattle.kinds.specs.Kinds.{is_strings}
use Rattle.index_set.specs.Bits.{is_held}
use Rattle.code_item_scan.specs.Scan.{is_in, Sought, sought, hits_by}
use Rattle.code_item_scan.specs.declared.Found.{Found}

-- a set of indices: a byte for each index of two bytes, a bit for each string index, and whether the words have others
pub record IndexSet : Type 0 where
  pub table : List ℕ
  pub bits : List ℕ
  pub others : Bool
  pub words : List ℕ

abbrev pub index_set_of : List ℕ → List ℕ → Bool → List ℕ → IndexSet
index_set_of table bits others words = record { table = table; bits = bits; others = others; words = words }

-- how many indices of two bytes there are
abbrev pub index_count : ℕ
index_count = 65536

-- a short table holds nothing
abbrev pub tabled : List ℕ → ℕ → Bool
tabled table x = leb index_count (length table) && ltb 0 (get_or table x 0)

-- by its bit, or past the bits among the words
unfoldable pub listed : IndexSet → ℕ → Bool
listed W x = cond (ltb x (64 * length W.bits)) (is_held W.bits x) (W.others && is_in x W.words)

unfoldable pub holds : IndexSet → Kind → ℕ → Bool
holds W kind x = cond (is_strings kind) (listed W x) (tabled W.table x)

-- the set tells which indices are wanted; those of a kind other than strings have two bytes
abbrev pub Tells : IndexSet → Kind → (ℕ → Bool) → Type 0
Tells W kind wants = (x : ℕ) → (is_strings kind ≡ false → x < index_count) → holds W kind x ≡ wants x

-- the same from a later start
abbrev pub on_from : Sought → ℕ → Sought
on_from Q p = sought Q.kind Q.wants p Q.to

-- the first hit of a region, and the rest from the next start on
pub record FirstHit (s : List ℕ) (Q : Sought) (off mark next : ℕ) : Type 0 where
  pub hits : hits_by s Q ≡ record { off = off; mark = mark } ∷ hits_by s (on_from Q next)
  pub onward : Q.from ≤ off
  pub passed : off < next
  pub inside : next ≤ Q.to

-- what is found: the first hit, or that there is none
pub record Finds (s : List ℕ) (Q : Sought) (r : Option Found) : Type 0 where
  pub hit : (f : Found) → r ≡ Some f → FirstHit s Q f.off f.mark f.next
  pub none_left : r ≡ None → hits_by s Q ≡ []
