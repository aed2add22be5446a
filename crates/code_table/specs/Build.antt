-- The outcome of the code table's build: the refusal's number (0 for success), the region, and the list of each lent output. A refusal has
-- the region 0 to 0 and empty lists. The lengths of the lent outputs are arguments.
-- Assumes nothing.
use Rattle.std.specs.Prelude.{ℕ, ◌-◌, ◌*◌, ◌^◌, List, [], cond, ◌&&◌, length, leb}
use Rattle.refusal.specs.Refusals.{refusal_number, is_too_large}
use Rattle.start_words.specs.Starts.{pairs_in}
use Rattle.tinydex.specs.declared.DexHeader.{DexHeader}
use Rattle.dalvik.specs.CodeItem.{Code}
use Rattle.class_data.specs.Walk.{Walk}
use Rattle.class_data.specs.Walk.Walk.{refused, found}
use Rattle.class_data.specs.Codes.{codes_of}
use Rattle.class_data.specs.Stored.{triples_of, starts_of}
use Rattle.code_table.specs.Slots.{base_of, top_of, table_of}
use Rattle.code_table.specs.RegionEnd.{region_end}

-- how many words are lent
pub record Room : Type 0 where
  pub starts : ℕ
  pub triples : ℕ
  pub slots : ℕ
  pub shares : ℕ

pub record Build : Type 0 where
  pub number : ℕ
  pub from : ℕ
  pub to : ℕ
  pub starts : List ℕ
  pub triples : List ℕ
  pub slots : List ℕ
  pub shares : List ℕ

abbrev pub no_build : ℕ → Build
no_build n = record { number = n; from = 0; to = 0; starts = []; triples = []; slots = []; shares = [] }

-- a share's number must fit 31 bits
abbrev pub most_shares : ℕ
most_shares = 3 * 2 ^ 31

-- the table of the codes of a file of len bytes with `count` method ids; the region begins at the least bucket · 16
abbrev pub whole_build : ℕ → ℕ → List Code → Build
whole_build len count cs = record {
  number = 0;
  from = base_of cs * 16;
  to = region_end len cs;
  starts = starts_of count cs;
  triples = triples_of cs;
  slots = (table_of cs).slots;
  shares = (table_of cs).shares;
}

-- last 4 for triples, slots and shares
abbrev pub built_from : ℕ → ℕ → Room → Walk → Build
built_from len count room (refused r) = no_build (refusal_number r)
built_from len count room (found cs e) =
    cond
    (leb (3 * length cs) room.triples && leb (top_of cs - base_of cs) room.slots && leb (length (table_of cs).shares) room.shares
    && leb (length (table_of cs).shares) most_shares)
    (whole_build len count cs)
    (no_build 4)

-- 1, then 4 for start words, then as the walk reads
unfoldable pub build_out : List ℕ → DexHeader → Room → Build
build_out s h room =
    cond (is_too_large (length s)) (no_build 1)
    (cond (leb h.methods.size (pairs_in room.starts)) (built_from (length s) h.methods.size room (codes_of s h)) (no_build 4))
