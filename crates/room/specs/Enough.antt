-- What suffices, in plain numbers: lengths of lent slices with which an operation does not refuse 4, from a file's length and its header
-- record, or from what else is handed over. That they suffice, and longer slices too, is stated in Laws.antt.
-- Assumes nothing.
use Rattle.std.specs.Prelude.{ℕ, ◌+◌, ◌*◌, ◌/◌, List, length}
use Rattle.tinydex.specs.declared.DexHeader.{DexHeader}
use Rattle.code_table.specs.Build.{Room}

-- ---- for any file

-- type groups: the offsets, and the type ids
abbrev pub type_offsets : DexHeader → ℕ
type_offsets h = h.strings.size + 1

abbrev pub type_ids : DexHeader → ℕ
type_ids h = h.types.size

-- method groups: by class the offsets and the method ids, by name the offsets and the method ids
abbrev pub class_offsets : DexHeader → ℕ
class_offsets h = h.types.size + 1

abbrev pub class_ids : DexHeader → ℕ
class_ids h = h.methods.size

abbrev pub name_offsets : DexHeader → ℕ
name_offsets h = h.strings.size + 1

abbrev pub name_ids : DexHeader → ℕ
name_ids h = h.methods.size

-- string map: the keys
abbrev pub map_keys : DexHeader → ℕ
map_keys h = h.strings.size

-- string, type and method search: the strings found, of the lent keys
abbrev pub strings_found : List ℕ → ℕ
strings_found keys = length keys

-- type and method search: the types found, of the lent type ids
abbrev pub types_found : List ℕ → ℕ
types_found ids = length ids

-- method search: the methods found
abbrev pub methods_found : DexHeader → ℕ
methods_found h = h.methods.size

-- name filter: the indices kept, of the given ones
abbrev pub names_kept : List ℕ → ℕ
names_kept given = length given

-- code table: two start words for each method; slots, in a file of n bytes; and three words of triples and of shares for each code found
abbrev pub start_words : DexHeader → ℕ
start_words h = 2 * h.methods.size

abbrev pub slot_words : ℕ → ℕ
slot_words n = n / 16

abbrev pub code_words : ℕ → ℕ
code_words codes = 3 * codes

-- scan for a kind, in a file of n bytes: the offsets, and the indices beside them, `most_entries kind n` of crate completeness

-- locate: an answer for each entry, and a further word for each pair of start words
abbrev pub answer_words : List ℕ → ℕ
answer_words entries = length entries

abbrev pub further_words : List ℕ → ℕ
further_words starts = length starts / 2

-- listing a slot: one method more than there are shares
abbrev pub listed_words : List ℕ → ℕ
listed_words shares = length shares / 3 + 1

-- the request of `refs`: its line has at most 16 indices
abbrev pub request_words : ℕ
request_words = 16

-- ---- for a file as demand 3 supposes: no method has code twice, so no more codes are found than there are methods

-- code table, in a file of n bytes. What suffices for the finder is `Enough` of crate completeness
abbrev pub build_room : ℕ → DexHeader → Room
build_room n h = record { starts = start_words h; triples = code_words h.methods.size; slots = slot_words n; shares = code_words h.methods.size }

-- listing a confirmed entry's slot
abbrev pub slot_methods : DexHeader → ℕ
slot_methods h = h.methods.size
