-- The outcome of the finder: the outcomes of build, scan and locate one after another, up to the first that refuses.
-- Assumes nothing.
use Rattle.std.specs.Prelude.{ℕ, ◌/◌, List, [], cond, length, eqb}
use Rattle.words.specs.Padded.{padded}
use Rattle.tinydex.specs.declared.DexHeader.{DexHeader}
use Rattle.code_table.specs.Build.{Room, Build, no_build, build_out}
use Rattle.code_table.specs.Answer.{room_of}
use Rattle.code_item_scan.specs.Scan.{Hit, asked, HitRoom}
use Rattle.code_item_scan.specs.Answers.{hit_room_of}
use Rattle.insn_locator.specs.Locate.{Tables}
use Rattle.insn_locator.specs.Answers.{tables}
use Rattle.region_search.specs.Search.{Search, search_out}
use Rattle.completeness.specs.Completeness.{FindWords}

-- how many words are lent
pub record Lengths : Type 0 where
  pub build : Room
  pub hits : HitRoom
  pub further : ℕ
  pub answers : ℕ

abbrev pub lengths_of : FindWords → Lengths
lengths_of w = record {
  build = room_of w.table;
  hits = hit_room_of w.hits;
  further = length w.located.further;
  answers = length w.located.answers;
}

-- ---- the finder
pub record Find : Type 0 where
  pub number : ℕ
  pub build : Build
  pub hits : List Hit
  pub answers : List ℕ

-- where the search refuses nothing of the build is left
abbrev pub found : Build → Search → Find
found B R =
    cond (eqb R.number 0)
    (record { number = 0; build = B; hits = R.hits; answers = R.answers })
    (record { number = R.number; build = no_build R.number; hits = R.hits; answers = R.answers })

-- the build's own tables: its slots and shares as they stand in the lent slices, and the start words of the methods
abbrev pub built_tables : Build → Lengths → Tables
built_tables B L = tables (B.from / 16) (padded L.build.slots B.slots) B.starts (padded L.build.shares B.shares)

-- the search over the build's own region and tables
abbrev pub search_of : List ℕ → ℕ → List ℕ → Lengths → Build → Search
search_of s kind wanted L B = search_out s (asked kind wanted B.from B.to) (built_tables B L) L.hits L.further L.answers

unfoldable pub find_out : List ℕ → DexHeader → ℕ → List ℕ → Lengths → Find
find_out s h kind wanted L =
    let B = build_out s h L.build in
    cond (eqb B.number 0) (found B (search_of s kind wanted L B)) (record { number = B.number; build = B; hits = []; answers = [] })
