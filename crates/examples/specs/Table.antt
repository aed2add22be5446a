-- SPEC, Worked examples: a field for each example, in that order.
-- Assumes nothing.
use Rattle.std.specs.Prelude.{ℕ, ◌+◌, ◌*◌, ◌^◌, ◌≡◌, List, [], ◌∷◌, length, get_or, replicate, Some, None, Ok, Err}
use Rattle.leb128.specs.Leb.{uleb_fast, uleb_len, uleb_of}
use Rattle.refusal.specs.declared.Refusal.TheVariants.{NumberOutside, NumberTooLong}
use Rattle.string_data.specs.Text.{string_text, found, none}
use Rattle.dalvik.specs.Ids.{type_descriptor_idx}
use Rattle.groups.specs.Built.{GroupWords, groups_of}
use Rattle.groups.specs.Stretch.{stretch_of}
use Rattle.dalvik.specs.CodeItem.{Code}
use Rattle.refusal.specs.Outcomes.{Outcome, success, refused}
use Rattle.code_table.specs.Slots.{table_of}
use Rattle.slot_listing.specs.Listing.{list_out}
use Rattle.string_search.specs.Owner.{owner}
use Rattle.string_search.specs.declared.Owner.TheVariants.{Entry, Absent}
use Rattle.opcodes.specs.Length.{length_read}
use Rattle.code_item_scan.specs.Scan.{Scan, asked, hit_room, scan_out}
use Rattle.insn_walk.specs.Walk.{step}
use Rattle.insn_locator.specs.Locate.{locate_out}
use Rattle.insn_locator.specs.Answers.{tables}
use Rattle.class_data.specs.Stored.{starts_of}

-- the scan of a region alone for index 5, with room for one hit
abbrev scanned : List ℕ → ℕ → Scan
scanned s kind = scan_out s (asked kind (5 ∷ []) 0 (length s)) (hit_room 1 1)

abbrev no_hit : Scan
no_hit = record { number = 0; hits = [] }

abbrev hit_at : ℕ → Scan
hit_at p = record { number = 0; hits = record { off = p; mark = 5 } ∷ [] }

-- a file of four type ids, its type ids grouped below three strings, and the stretch of a string
abbrev pub type_ids : List ℕ
type_ids = 1 ∷ 0 ∷ 0 ∷ 0 ∷ 3 ∷ 0 ∷ 0 ∷ 0 ∷ 1 ∷ 0 ∷ 0 ∷ 0 ∷ 7 ∷ 0 ∷ 0 ∷ 0 ∷ []

abbrev pub type_groups : GroupWords
type_groups = groups_of (type_descriptor_idx type_ids 0) 4 3

abbrev pub types_of : ℕ → List ℕ
types_of k = stretch_of type_groups.offs type_groups.ids k

-- a method whose code is the code item at 48
abbrev on_one_item : ℕ → Code
on_one_item m = record { method = m; off = 48; units = 3 }

abbrev four_seven_nine : List Code
four_seven_nine = on_one_item 4 ∷ on_one_item 7 ∷ on_one_item 9 ∷ []

-- the entry 4 in 00 00 0e 00 1a 00 05 00, whose block is that of method 0, with these start words
abbrev located_by : List ℕ → Outcome
located_by starts = locate_out (0x00 ∷ 0x00 ∷ 0x0e ∷ 0x00 ∷ 0x1a ∷ 0x00 ∷ 0x05 ∷ 0x00 ∷ []) (tables 0 (1 ∷ []) starts []) (4 ∷ []) 1 1

pub record Table : Type 0 where
  -- 80 7f is 16256 in 2
  pub two_bytes : uleb_fast (0x80 ∷ 0x7f ∷ []) 0 ≡ Ok (uleb_of 16256 2)
  -- ff ff ff ff 0f is 4294967295 in 5; 7f for 0f does not fit, which is told once that byte is there
  pub greatest : uleb_fast (0xff ∷ 0xff ∷ 0xff ∷ 0xff ∷ 0x0f ∷ []) 0 ≡ Ok (uleb_of 4294967295 5)
  pub five_bytes : uleb_fast (0xff ∷ 0xff ∷ 0xff ∷ 0xff ∷ 0x7f ∷ []) 0 ≡ Err NumberTooLong
  pub four_of_five : uleb_fast (0xff ∷ 0xff ∷ 0xff ∷ 0xff ∷ []) 0 ≡ Err NumberOutside
  -- 80 80 80 80 80 00 has no length: it is too long
  pub six_bytes : uleb_len (0x80 ∷ 0x80 ∷ 0x80 ∷ 0x80 ∷ 0x80 ∷ 0x00 ∷ []) 0 ≡ Err NumberTooLong
  -- length ff ff ff ff 0f with a zero after is the empty string; 10 for 0f is refused
  pub longest_length : string_text (0xff ∷ 0xff ∷ 0xff ∷ 0xff ∷ 0x0f ∷ 0x00 ∷ []) 0 ≡ found 5 0
  pub length_overflow : string_text (0xff ∷ 0xff ∷ 0xff ∷ 0xff ∷ 0x10 ∷ 0x00 ∷ []) 0 ≡ none 10
  -- three strings, type ids 1, 3, 1, 7: group 1 is 0, 2, the rest empty
  pub type_offsets : type_groups.offs ≡ 0 ∷ 0 ∷ 2 ∷ 2 ∷ []
  pub type_groups_ids : type_groups.ids ≡ 0 ∷ 2 ∷ []
  pub type_group_0 : types_of 0 ≡ []
  pub type_group_1 : types_of 1 ≡ 0 ∷ 2 ∷ []
  pub type_group_2 : types_of 2 ≡ []
  pub type_group_3 : types_of 3 ≡ []
  -- two keys on one offset, 0x100: the larger index owns
  pub larger_index : owner ((0x100 * 2 ^ 32 + 3) ∷ (0x100 * 2 ^ 32 + 5) ∷ []) 0x100 ≡ Entry 5
  -- a find that begins in the length prefix is the string's, and one before every string has no owner
  pub length_prefix : owner ((0x100 * 2 ^ 32 + 0) ∷ (0x200 * 2 ^ 32 + 1) ∷ []) 0x200 ≡ Entry 1
  pub before_all : owner ((0x100 * 2 ^ 32 + 0) ∷ []) 0xff ≡ Absent
  -- in a region alone, wanted 5: 1a 00 05 hits nothing, 1a 00 05 00 hits
  pub string_cut : scanned (0x1a ∷ 0x00 ∷ 0x05 ∷ []) 1 ≡ no_hit
  pub string : scanned (0x1a ∷ 0x00 ∷ 0x05 ∷ 0x00 ∷ []) 1 ≡ hit_at 0
  -- 1b 00 05 00 00 doesn't, with one 00 more it does
  pub jumbo_cut : scanned (0x1b ∷ 0x00 ∷ 0x05 ∷ 0x00 ∷ 0x00 ∷ []) 1 ≡ no_hit
  pub jumbo : scanned (0x1b ∷ 0x00 ∷ 0x05 ∷ 0x00 ∷ 0x00 ∷ 0x00 ∷ []) 1 ≡ hit_at 0
  -- 00 22 00 05 00 00 has no type hit; 22 replaced by 1a is a string hit at 1
  pub odd_type : scanned (0x00 ∷ 0x22 ∷ 0x00 ∷ 0x05 ∷ 0x00 ∷ 0x00 ∷ []) 2 ≡ no_hit
  pub odd_string : scanned (0x00 ∷ 0x1a ∷ 0x00 ∷ 0x05 ∷ 0x00 ∷ 0x00 ∷ []) 1 ≡ hit_at 1
  -- methods 4, 7, 9 on one code item list as 7, 4, 9
  pub shared_code : list_out (table_of four_seven_nine).shares (get_or (table_of four_seven_nine).slots 0 0) 3 ≡ success (7 ∷ 4 ∷ 9 ∷ [])
  -- steps over payloads: a packed switch of one target, whole and cut by a byte; a sparse switch of none; three bytes of array data, which take
  -- two units; array data of the greatest width and size
  pub packed_switch : step (0x00 ∷ 0x01 ∷ 0x01 ∷ 0x00 ∷ replicate 8 0) 0 ≡ Some 12
  pub packed_switch_cut : step (0x00 ∷ 0x01 ∷ 0x01 ∷ 0x00 ∷ replicate 7 0) 0 ≡ None
  pub sparse_switch : step (0x00 ∷ 0x02 ∷ 0x00 ∷ 0x00 ∷ []) 0 ≡ Some 4
  pub array_data : step (0x00 ∷ 0x03 ∷ 0x01 ∷ 0x00 ∷ 0x03 ∷ 0x00 ∷ 0x00 ∷ 0x00 ∷ replicate 4 0) 0 ≡ Some 12
  pub greatest_data : step (0x00 ∷ 0x03 ∷ replicate 6 0xff) 0 ≡ None
  -- 00 04 opens none, nor does 00 with nothing after it
  pub other_unit : step (0x00 ∷ 0x04 ∷ []) 0 ≡ Some 2
  pub single_byte : step (0x00 ∷ []) 0 ≡ Some 2
  -- start words: of two methods the first has code at 48, of four units
  pub two_start_words : starts_of 2 (record { method = 0; off = 48; units = 4 } ∷ []) ≡ 64 ∷ 72 ∷ 0 ∷ 0 ∷ []
  -- an entry before the end of its method is confirmed, though its instruction passes the end; one at the end isn't; half a pair is none
  pub before_the_end : located_by (2 ∷ 6 ∷ []) ≡ success (1 ∷ [])
  pub at_the_end : located_by (2 ∷ 4 ∷ []) ≡ success (0 ∷ [])
  pub half_a_pair : located_by (2 ∷ []) ≡ refused 15
  -- instruction lengths: an opcode of each, and one without
  pub return_void : length_read 0x0e ≡ Some 1
  pub const_string : length_read 0x1a ≡ Some 2
  pub const_string_jumbo : length_read 0x1b ≡ Some 3
  pub invoke_polymorphic : length_read 0xfa ≡ Some 4
  pub const_wide : length_read 0x18 ≡ Some 5
  pub unused : length_read 0x73 ≡ None
