-- What the operations answer, by computation: for the worked files, and for files just outside the supposition and at its edge, which show why
-- each part is supposed.
-- Assumes nothing.
use Rattle.std.specs.Prelude.{Some}
use Prim.Native.Nat.{ℕ}
use mathlib.Core.Path.{◌≡◌, refl}
use mathlib.Core.List.{List, [], ◌∷◌, ◌++◌}
use lib.ListN.{get_or, replicate, take}
use Rattle.words.specs.Padded.{padded, stretch}
use Rattle.dalvik.specs.Numbers.{le16, le32}
use Rattle.dalvik.specs.CodeItem.{Code}
use Rattle.opcodes.specs.Length.{units_of}
use Rattle.leb128.specs.Leb.{uleb, uleb_fast, uleb_len}
use Rattle.class_data.specs.Walk.{skipped, two_at, sizes_at, methods_at, methods_from, class_data_at}
use Rattle.class_data.specs.Codes.{successive, defined, entry_from, map_entry, codes_of}
use Rattle.start_words.specs.Starts.{with_array, no_starts, pair_of}
use Rattle.class_data.specs.Stored.{triples_of, starts_of}
use Rattle.code_table.specs.Slots.{joined, joined_slot, place, table_of}
use Rattle.code_table.specs.RegionEnd.{region_end}
use Rattle.code_table.specs.Build.{Room, build_out}
use Rattle.kinds.specs.Width.{width_of}
use Rattle.kinds.specs.Kinds.{kind_of}
use Rattle.code_item_scan.specs.Scan.{Hit, asked, hit_room, index_at, is_tried, hits_in, hits_by, scan_out}
use Rattle.insn_walk.specs.Walk.{payload_units, step, walk_in, walk}
use Rattle.insn_locator.specs.Locate.{slot_at, first_of, locate_from, locate_all, locate_out}
use Rattle.slot_listing.specs.Listing.{chain, listed, list_out}
use Rattle.completeness.proofs.Owners.{tables_for}
use Rattle.completeness.proofs.WorkedFile.{Computed}
use Rattle.completeness.proofs.Case as whole
use Rattle.completeness.proofs.SharedCase as shared
use Rattle.completeness.proofs.EndCase as end
use Rattle.completeness.proofs.PayloadCase as payload
use Rattle.completeness.proofs.PaddingCase as padding

room : Room
room = record { starts = 4; triples = 4; slots = 4; shares = 4 }

-- the whole case, with a string reference written after the array's end, at 72, in the array's only block
file : List ℕ
file = take 72 whole.file ++ (0x1a ∷ 0 ∷ 0x05 ∷ 0 ∷ replicate 4 0)

hit : ℕ → Hit
hit off = record { off = off; mark = 5 }

twice : List Code
twice = record { method = 0; off = 48; units = 4 } ∷ record { method = 0; off = 80; units = 1 } ∷ []

close : List Code
close = record { method = 4; off = 48; units = 2 } ∷ record { method = 7; off = 52; units = 2 } ∷ []

record Answers : Type 0 where
  pub whole_case : Computed whole.worked
  pub shared_case : Computed shared.worked
  pub end_case : Computed end.worked
  pub jumbo_at_end : Computed end.jumbo_worked
  pub payloads_between : Computed payload.worked
  pub payload_first : Computed payload.first_worked
  pub use_in_padding : Computed padding.worked
  -- the last block not inside: the region ends with the file, and a longer one, made up, is refused 12
  pub cut_build : (build_out (take 76 file) whole.header room).to ≡ 76
  pub cut_scan : scan_out (take 76 file) (asked 1 (5 ∷ []) 64 76) (hit_room 9 9) ≡ record { number = 0; hits = hit 64 ∷ hit 72 ∷ [] }
  pub made_up : (scan_out (take 76 file) (asked 1 (5 ∷ []) 64 77) (hit_room 9 9)).number ≡ 12
  -- a method with code twice: its start words are those of the code found last, and the reference in the first is not confirmed
  pub lost : locate_all (file ++ replicate 32 0) (tables_for 1 twice 0 0 0) (64 ∷ []) ≡ Some (0 ∷ [])
  -- two arrays in one block, since their items share bytes: the second code is joined to the first, and either lists both methods
  pub mixed : listed (table_of close).shares (get_or (table_of close).slots 0 0) ≡ Some (7 ∷ 4 ∷ [])

answers : Answers
unfolding whole.file whole.header whole.worked shared.file shared.header shared.worked
    end.file end.jumbo_file end.header end.worked end.jumbo_worked
    payload.file payload.first_file payload.header payload.hit payload.worked payload.first_worked padding.file padding.header padding.worked hit room file twice close
    build_out codes_of map_entry entry_from defined successive class_data_at methods_at sizes_at two_at methods_from skipped uleb_fast uleb uleb_len
    le16 le32 triples_of starts_of with_array no_starts pair_of table_of region_end place joined joined_slot stretch padded
    scan_out kind_of hits_by hits_in is_tried width_of index_at locate_out locate_all locate_from slot_at first_of walk walk_in step payload_units units_of list_out listed chain
answers = record {
  whole_case = record { build = refl; scan = refl; located = refl; listed = refl };
  shared_case = record { build = refl; scan = refl; located = refl; listed = refl };
  end_case = record { build = refl; scan = refl; located = refl; listed = refl };
  jumbo_at_end = record { build = refl; scan = refl; located = refl; listed = refl };
  payloads_between = record { build = refl; scan = refl; located = refl; listed = refl };
  payload_first = record { build = refl; scan = refl; located = refl; listed = refl };
  use_in_padding = record { build = refl; scan = refl; located = refl; listed = refl };
  cut_build = refl;
  cut_scan = refl;
  made_up = refl;
  lost = refl;
  mixed = refl;
}
