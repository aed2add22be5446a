-- The laws of room, one field after another: each is proved where its operations are.
-- Assumes nothing.
use native.Mathlib.Omega.{arith}
use lib.ListN.{length}
use Rattle.dalvik.specs.Ids.{type_id_size, type_descriptor_idx}
use Rattle.string_search.specs.Search.{search_fault}
use Rattle.method_search.specs.Methods.{search_for}
use Rattle.name_filter.specs.Faults.{filter_fault}
use Rattle.request.proofs.Room.{sixteen_suffice, more_room as request-more}
use Rattle.listing_text.proofs.TextRoom.{head_room, entry_room, refusal_room}
use Rattle.room.specs.Laws.{MoreRoom, NoFour}
use Rattle.room.proofs.Grouped as g
use Rattle.room.proofs.Searches as s
use Rattle.room.proofs.Codes.{build_more, build_enough}
use Rattle.room.proofs.Located.{scan_more, scan_enough, locate_more, locate_enough, list_more, list_enough}
use Rattle.room.proofs.Finder.{find_more}
use Rattle.room.proofs.Texts.{entry_more, entries_more}

pub more_room : MoreRoom
more_room = record {
  groups = g.groups_more;
  method_groups = g.methods_more;
  string_map = g.map_more;
  string_search = λ w q r r' out out₁ out' out₁' F G.
      s.found_more (search_fault (length w.file) 1 (length q) w.keys) (search_fault (length w.file) 1 (length q) w.keys) r r' out out₁ out'
      out₁' F G (λ z. z);
  type_search = s.types_more;
  method_search = s.methods_more;
  name_filter =
      λ f q given r r' out out₁ out' out₁' F G. s.found_more (filter_fault f q given) (filter_fault f q given) r r' out out₁ out' out₁' F G (λ z. z);
  code_table = build_more;
  scan = scan_more;
  locate = λ s T entries answers further answers' further' a b. locate_more s T entries a b;
  listing = list_more;
  finder = find_more;
  request = request-more;
  head_text = λ kind hits m n h. head_room m n h kind hits;
  entry_text = λ off idx mids m n h. entry_room m n h off idx mids;
  refusal_text = λ why m n h. refusal_room m n h why;
  line = λ E w b w' b' i h k. entry_more w b w' b' h k E i;
  lines = λ E w b w' b' h k. entries_more w b w' b' h k E;
}

pub no_four : NoFour
no_four = record {
  type_groups = λ f h before a b.
      g.groups_enough (length f) h.types type_id_size (type_descriptor_idx f h.types.off) h.strings.size before (omega arith) (omega arith);
  method_groups = g.methods_enough;
  string_map = λ f h keys. g.map_enough f h.strings.off h.strings.size keys;
  string_search = s.strings_enough;
  type_search = s.types_enough;
  method_search = λ w q table h. s.methods_enough (search_for w q table h.methods);
  name_filter = s.names_enough;
  code_table = build_enough;
  scan = scan_enough;
  locate = locate_enough;
  listing = λ shares slot room a. list_enough shares slot room (omega arith);
  request = λ text words h. sixteen_suffice text words h;
}
