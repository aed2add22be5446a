-- Demand 3 over the outcomes of the four operations, called one after another: build_out, scan_out, locate_out, list_out. It is what the promise
-- of the finder stands on, and holds of any caller that passes on what the build returned. Here it is stated; it is proved in Demand.antt.
-- Assumes nothing.
use Prim.Native.Nat.{ℕ, ◌-◌, ◌*◌, ◌/◌, ◌≤◌, ◌<◌}
use mathlib.Core.Path.{◌≡◌}
use mathlib.Core.Logic.{◌≢◌}
use mathlib.Core.List.{List, Memᴰ}
use lib.ListN.{length, get_or}
use Rattle.words.specs.Padded.{padded}
use Rattle.refusal.specs.Outcomes.{Outcome}
use Rattle.tinydex.specs.declared.DexHeader.{DexHeader}
use Rattle.dalvik.specs.CodeItem.{Code}
use Rattle.dalvik.specs.Instructions.{Kind}
use Rattle.start_words.specs.Starts.{pairs_in}
use Rattle.code_table.specs.Slots.{base_of, top_of, table_of}
use Rattle.code_table.specs.RegionEnd.{region_end}
use Rattle.code_table.specs.Build.{Room, Build, build_out}
use Rattle.kinds.specs.Kinds.{kind_number}
use Rattle.code_item_scan.specs.Scan.{Hit, hits_of, offs, Scan, asked, HitRoom, scan_out}
use Rattle.insn_locator.specs.Locate.{Tables, locate_out}
use Rattle.completeness.specs.Completeness.{Supposed, Lists, NamesWanted, Use}

-- ---- the operations, one after another

-- how many words are lent to each
pub record Lent : Type 0 where
  pub build : Room
  -- of what the build filled, this much is passed on: the whole buffers, or what the build returned and fewer of the zeros after it
  pub slots : ℕ
  pub starts : ℕ
  pub shares : ℕ
  pub hits : HitRoom
  pub answers : ℕ
  pub further : ℕ

-- "with the region, slots, starts and shares it returned for this file, unchanged"
abbrev pub handed_on : Lent → Build → Tables
handed_on L B = record {
  base = B.from / 16;
  slots = padded L.slots B.slots;
  starts = padded L.starts B.starts;
  shares = padded L.shares B.shares;
}

abbrev pub built_of : List ℕ → DexHeader → Lent → Build
built_of s h L = build_out s h L.build

-- the scan of the region that the build returned
abbrev pub scanned_of : List ℕ → Kind → List ℕ → Lent → Build → Scan
scanned_of s kind wanted L B = scan_out s (asked (kind_number kind) wanted B.from B.to) L.hits

-- locate of the scan's list
abbrev pub located_of : List ℕ → Lent → Build → Scan → Outcome
located_of s L B S = locate_out s (handed_on L B) (offs S.hits) L.answers L.further

-- the three outcomes, and the shares that are passed on to the listing of a slot
pub record Ran : Type 0 where
  pub build : Build
  pub scan : Scan
  pub located : Outcome
  pub shares : List ℕ

abbrev pub ran_from : List ℕ → Kind → List ℕ → Lent → Build → Ran
ran_from s kind wanted L B =
    let S = scanned_of s kind wanted L B in
    record { build = B; scan = S; located = located_of s L B S; shares = (handed_on L B).shares }

abbrev pub ran_of : List ℕ → DexHeader → Kind → List ℕ → Lent → Ran
ran_of s h kind wanted L = ran_from s kind wanted L (built_of s h L)

-- ---- "lent buffers that suffice", exactly

-- scan's entries
abbrev pub entries_of : List ℕ → List Code → Kind → List ℕ → List Hit
entries_of s codes kind wanted = hits_of s kind wanted (base_of codes * 16) (region_end (length s) codes)

-- what the build writes
pub record HoldsTable (methods : ℕ) (codes : List Code) (room : Room) : Type 0 where
  pub starts : 2 * methods ≤ room.starts
  pub triples : 3 * length codes ≤ room.triples
  pub slots : top_of codes - base_of codes ≤ room.slots
  pub shares : length (table_of codes).shares ≤ room.shares

-- each lent slice holds what is to be written to it
pub record Suffices (s : List ℕ) (methods : ℕ) (codes : List Code) (kind : Kind) (wanted : List ℕ) (L : Lent) : Type 0 where
  pub build : HoldsTable methods codes L.build
  pub offs : length (entries_of s codes kind wanted) ≤ L.hits.offs
  pub marks : length (entries_of s codes kind wanted) ≤ L.hits.marks
  pub answers : length (entries_of s codes kind wanted) ≤ L.answers
  -- the start words are passed on, and locate has a further word for each pair of them
  pub starts_passed : 2 * methods ≤ L.starts
  pub further : pairs_in L.starts ≤ L.further

-- ---- what holds of the outcomes

-- strictly rising
unfoldable pub Rising : List ℕ → Type 0
Rising xs = (i j : ℕ) → i < j → j < length xs → get_or xs i 0 < get_or xs j 0

-- entry k of the scan's list is a confirmed one, its answer a slot word other than 0: offset, the index beside it, slot
pub record Confirmed (hits : List Hit) (answers : List ℕ) (k off mark slot : ℕ) : Type 0 where
  pub in_list : k < length hits
  pub entry : get_or hits k (record { off = 0; mark = 0 }) ≡ record { off = off; mark = mark }
  pub answer : get_or answers k 0 ≡ slot
  pub confirmed : slot ≢ 0

-- a confirmed entry with offset and index, whose slot lists the methods with the code of c
pub record Shown (codes : List Code) (c : Code) (R : Ran) (off index : ℕ) : Type 0 where
  pub k : ℕ
  pub slot : ℕ
  pub entry : Confirmed R.scan.hits R.located.list k off index slot
  pub lists : Lists codes c R.shares slot

pub record Finds (s : List ℕ) (codes : List Code) (kind : Kind) (wanted : List ℕ) (R : Ran) : Type 0 where
  -- "build and .. scan, locate of scan's list .. all succeed"; so does the listing of a confirmed entry's slot, under `none_missing` and `none_invented`
  pub build_succeeds : R.build.number ≡ 0
  pub scan_succeeds : R.scan.number ≡ 0
  pub locate_succeeds : R.located.number ≡ 0
  -- each entry has an answer
  pub answered : length R.located.list ≡ length R.scan.hits
  pub none_missing : (c : Code) → Memᴰ c codes → (off index : ℕ) → NamesWanted s c kind wanted off index → Shown codes c R off index
  pub rising : Rising (offs R.scan.hits)
  -- no two entries have one offset
  pub once : (k l : ℕ) → k < length R.scan.hits → l < length R.scan.hits
      → get_or (offs R.scan.hits) k 0 ≡ get_or (offs R.scan.hits) l 0 → k ≡ l
  pub none_invented : (k off mark slot : ℕ) → Confirmed R.scan.hits R.located.list k off mark slot
      → Use s codes kind wanted R.shares (record { off = off; index = mark; slot = slot })

-- demand 3 for one call of each operation
abbrev pub OverOutcomes : Type 0
OverOutcomes =
    (s : List ℕ) (h : DexHeader) (codes : List Code) → Supposed s h.mapoff h.classes.off h.classes.size h.methods.size codes
    → (kind : Kind) (wanted : List ℕ) (L : Lent) → Suffices s h.methods.size codes kind wanted L
    → Finds s codes kind wanted (ran_of s h kind wanted L)
