-- Each example holds by computation.
-- Assumes nothing.
use mathlib.Core.Path.{refl}
use Rattle.leb128.specs.Leb.{uleb_fast, uleb, uleb_len}
use Rattle.string_data.specs.Text.{string_text, after_length, text_from, first_zero, zero_of}
use Rattle.dalvik.specs.Numbers.{le16, le32}
use Rattle.groups.specs.Groups.{ids_where, joined, tabulate}
use Rattle.groups.specs.Built.{groups_of}
use Rattle.groups.specs.Stretch.{stretch_of}
use Rattle.words.specs.Padded.{stretch}
use Rattle.code_table.specs.Slots.{joined as joined_share, joined_slot, place, table_of}
use Rattle.slot_listing.specs.Listing.{chain, listed, list_out}
use Rattle.string_search.specs.Owner.{owner}
use Rattle.opcodes.specs.Length.{length_read, units_of}
use Rattle.kinds.specs.Width.{width_of}
use Rattle.kinds.specs.Kinds.{kind_of}
use Rattle.code_item_scan.specs.Scan.{scan_out, hits_by, hits_in, is_tried, index_at}
use Rattle.insn_walk.specs.Walk.{payload_units, step, walk_in, walk}
use Rattle.insn_locator.specs.Locate.{slot_at, first_of, locate_from, locate_all, locate_out}
use Rattle.start_words.specs.Starts.{pair_of, with_array, no_starts}
use Rattle.class_data.specs.Stored.{starts_of}
use Rattle.examples.specs.Table.{Table}

pub checked : Table
unfolding uleb_fast uleb uleb_len length_read units_of string_text after_length text_from first_zero zero_of le16 le32 ids_where joined tabulate groups_of stretch_of scan_out kind_of hits_by hits_in is_tried width_of index_at stretch joined_slot place table_of chain listed list_out joined_share owner step payload_units walk_in walk slot_at first_of locate_from locate_all locate_out pair_of with_array no_starts starts_of
checked = record {
  two_bytes = refl;
  greatest = refl;
  five_bytes = refl;
  four_of_five = refl;
  six_bytes = refl;
  longest_length = refl;
  length_overflow = refl;
  type_offsets = refl;
  type_groups_ids = refl;
  type_group_0 = refl;
  type_group_1 = refl;
  type_group_2 = refl;
  type_group_3 = refl;
  shared_code = refl;
  larger_index = refl;
  length_prefix = refl;
  before_all = refl;
  packed_switch = refl;
  packed_switch_cut = refl;
  sparse_switch = refl;
  array_data = refl;
  greatest_data = refl;
  other_unit = refl;
  single_byte = refl;
  two_start_words = refl;
  before_the_end = refl;
  at_the_end = refl;
  half_a_pair = refl;
  return_void = refl;
  const_string = refl;
  const_string_jumbo = refl;
  invoke_polymorphic = refl;
  const_wide = refl;
  unused = refl;
  string_cut = refl;
  string = refl;
  jumbo_cut = refl;
  jumbo = refl;
  odd_type = refl;
  odd_string = refl;
}
