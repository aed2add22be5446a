-- What is stated of room in lent slices: a longer slice never turns a success into a refusal, and with the lengths of Enough.antt no
-- operation refuses 4. Where a contract names an outcome, the law is of the outcome; where it is a relation, of any answer that it allows.
-- Assumes nothing.
use Rattle.std.specs.Prelude.{ℕ, ◌^◌, ◌≤◌, ◌≡◌, ◌≢◌, length, take, Result}
use mathlib.Core.List.{List, Memᴰ}
use Rattle.words.specs.Padded.{padded}
use Rattle.refusal.specs.Refusals.{answer_number, answer_count}
use Rattle.refusal.specs.declared.Refusal.{Refusal}
use Rattle.dalvik.specs.Numbers.{le32}
use Rattle.dalvik.specs.CodeItem.{Code}
use Rattle.tinydex.specs.declared.DexHeader.{DexHeader}
use Rattle.tinydex.specs.declared.Table.{Table}
use Rattle.groups.specs.Built as groups
use Rattle.groups.specs.Built.{GroupWords}
use Rattle.type_locator.specs.Built as type_groups
use Rattle.method_locator.specs.Built as methods
use Rattle.method_locator.specs.Built.{MethodWords}
use Rattle.string_locator.specs.Map.{map_outcome}
use Rattle.word_set.specs.Found.{Found}
use Rattle.string_search.specs.Search.{Area, Owns, search_fault}
use Rattle.type_search.specs.Types as types
use Rattle.type_search.specs.Types.{TypeWords}
use Rattle.method_search.specs.Methods as search
use Rattle.method_search.specs.Methods.{Query, Asked, search_for, SearchWords}
use Rattle.name_filter.specs.Faults.{filter_fault}
use Rattle.name_filter.specs.Names.{Named}
use Rattle.class_data.specs.Walk.{Walk}
use Rattle.class_data.specs.Walk.Walk.{refused, found}
use Rattle.class_data.specs.Codes.{codes_of}
use Rattle.code_table.specs.Build.{Room, build_out}
use Rattle.code_item_scan.specs.Scan.{Asked as ScanAsked, HitRoom, scan_out}
use Rattle.insn_locator.specs.Locate.{Tables, locate_out}
use Rattle.slot_listing.specs.Listing.{list_out}
use Rattle.request.specs.Request.{request_of}
use Rattle.listing_text.specs.Text.{head_out, entry_out, refusal_out}
use Rattle.entry_lines.specs.Line.{Entries, line_at, tried_out}
use Rattle.completeness.specs.Completeness.{Supposed, FindWords, most_entries, Enough, sharing}
use Rattle.findrefs.specs.Find.{Lengths, lengths_of, find_out}
use Rattle.room.specs.Enough.{type_offsets, type_ids, class_offsets, class_ids, name_offsets, name_ids, map_keys}
use Rattle.room.specs.Enough.{strings_found, types_found, methods_found, names_kept, request_words}
use Rattle.room.specs.Enough.{start_words, slot_words, code_words, answer_words, further_words, listed_words, build_room, slot_methods}

-- ---- slices that are each at least as long
pub record LongerGroups (a b : GroupWords) : Type 0 where
  pub offs : length a.offs ≤ length b.offs
  pub ids : length a.ids ≤ length b.ids

pub record Longer (a b : Room) : Type 0 where
  pub starts : a.starts ≤ b.starts
  pub triples : a.triples ≤ b.triples
  pub slots : a.slots ≤ b.slots
  pub shares : a.shares ≤ b.shares

pub record LongerHits (a b : HitRoom) : Type 0 where
  pub offs : a.offs ≤ b.offs
  pub marks : a.marks ≤ b.marks

pub record LongerAll (a b : Lengths) : Type 0 where
  pub build : Longer a.build b.build
  pub hits : LongerHits a.hits b.hits
  pub further : a.further ≤ b.further
  pub answers : a.answers ≤ b.answers

-- r and the words `after` came of one call, r' and `after'` of another that was lent `before'`: it succeeds with the same list
pub record SameList (r : Result ℕ Refusal) (after : List ℕ) (r' : Result ℕ Refusal) (before' after' : List ℕ) : Type 0 where
  pub number : answer_number r' ≡ 0
  pub count : answer_count r' ≡ answer_count r
  pub words : after' ≡ padded (length before') (take (answer_count r) after)

-- ---- more room never refuses: what succeeds comes to the same with slices that are each at least as long
pub record MoreRoom : Type 0 where
  pub groups : (len : ℕ) (t : Table) (size : ℕ) (g before before' : GroupWords) → LongerGroups before before'
      → (groups.outcome len t size g before).number ≡ 0 → groups.outcome len t size g before' ≡ groups.outcome len t size g before
  pub method_groups : (s : List ℕ) (h : DexHeader) (before before' : MethodWords)
      → LongerGroups before.clz before'.clz → LongerGroups before.name before'.name
      → (methods.outcome s h before).number ≡ 0 → methods.outcome s h before' ≡ methods.outcome s h before
  pub string_map : (s : List ℕ) (table n lent lent' : ℕ) → lent ≤ lent' → (map_outcome s table n lent).number ≡ 0
      → map_outcome s table n lent' ≡ map_outcome s table n lent
  pub string_search : (w : Area) (q : List ℕ) (r r' : Result ℕ Refusal) (out out₁ out' out₁' : List ℕ)
      → Found (Owns w q) (search_fault (length w.file) 1 (length q) w.keys) r out out₁
      → Found (Owns w q) (search_fault (length w.file) 1 (length q) w.keys) r' out' out₁'
      → length out ≤ length out' → answer_number r ≡ 0 → SameList r out₁ r' out' out₁'
  pub type_search : (w : Area) (q : List ℕ) (table : GroupWords) (r r' : Result ℕ Refusal) (before after before' after' : TypeWords)
      → types.Searched w q table r before after → types.Searched w q table r' before' after'
      → length before.strings ≤ length before'.strings → length before.types ≤ length before'.types → answer_number r ≡ 0
      → SameList r after.types r' before'.types after'.types
  pub method_search : (k : Asked) (r r' : Result ℕ Refusal) (before after before' after' : SearchWords)
      → search.Searched k r before after → search.Searched k r' before' after'
      → length before.strings ≤ length before'.strings → length before.types ≤ length before'.types
      → length before.methods ≤ length before'.methods → answer_number r ≡ 0
      → SameList r after.methods r' before'.methods after'.methods
  pub name_filter : (s q given : List ℕ) (r r' : Result ℕ Refusal) (out out₁ out' out₁' : List ℕ)
      → Found (Named s (le32 s 0x3c) q given) (filter_fault s q given) r out out₁
      → Found (Named s (le32 s 0x3c) q given) (filter_fault s q given) r' out' out₁'
      → length out ≤ length out' → answer_number r ≡ 0 → SameList r out₁ r' out' out₁'
  pub code_table : (s : List ℕ) (h : DexHeader) (room room' : Room) → Longer room room' → (build_out s h room).number ≡ 0
      → build_out s h room' ≡ build_out s h room
  pub scan : (s : List ℕ) (A : ScanAsked) (room room' : HitRoom) → LongerHits room room' → (scan_out s A room).number ≡ 0
      → scan_out s A room' ≡ scan_out s A room
  pub locate : (s : List ℕ) (T : Tables) (entries : List ℕ) (answers further answers' further' : ℕ) → answers ≤ answers' → further ≤ further'
      → (locate_out s T entries answers further).number ≡ 0
      → locate_out s T entries answers' further' ≡ locate_out s T entries answers further
  pub listing : (shares : List ℕ) (slot room room' : ℕ) → room ≤ room' → (list_out shares slot room).number ≡ 0
      → list_out shares slot room' ≡ list_out shares slot room
  pub finder : (s : List ℕ) (h : DexHeader) (kind : ℕ) (wanted : List ℕ) (L L' : Lengths) → LongerAll L L' → (find_out s h kind wanted L).number ≡ 0
      → find_out s h kind wanted L' ≡ find_out s h kind wanted L
  -- the request and the texts of `refs`
  pub request : (text : List ℕ) (words words' : ℕ) → words ≤ words' → (request_of text words).number ≡ 0
      → request_of text words' ≡ request_of text words
  pub head_text : (kind hits bytes bytes' : ℕ) → bytes ≤ bytes' → (head_out kind hits bytes).number ≡ 0
      → head_out kind hits bytes' ≡ head_out kind hits bytes
  pub entry_text : (off idx : ℕ) (mids : List ℕ) (bytes bytes' : ℕ) → bytes ≤ bytes' → (entry_out off idx mids bytes).number ≡ 0
      → entry_out off idx mids bytes' ≡ entry_out off idx mids bytes
  pub refusal_text : (why : Refusal) (bytes bytes' : ℕ) → bytes ≤ bytes' → (refusal_out why bytes).number ≡ 0
      → refusal_out why bytes' ≡ refusal_out why bytes
  pub line : (E : Entries) (words bytes words' bytes' i : ℕ) → words ≤ words' → bytes ≤ bytes' → (line_at E words bytes i).number ≡ 0
      → line_at E words' bytes' i ≡ line_at E words bytes i
  pub lines : (E : Entries) (words bytes words' bytes' : ℕ) → words ≤ words' → bytes ≤ bytes' → tried_out E words bytes ≡ 0
      → tried_out E words' bytes' ≡ 0

-- ---- what suffices

-- how many codes the walk over a file's class data finds
abbrev pub codes_found : Walk → ℕ
codes_found (refused r) = 0
codes_found (found cs e) = length cs

-- for any file, record and query
pub record NoFour : Type 0 where
  pub type_groups : (s : List ℕ) (h : DexHeader) (before : GroupWords) → type_offsets h ≤ length before.offs → type_ids h ≤ length before.ids
      → (type_groups.outcome s h before).number ≢ 4
  pub method_groups : (s : List ℕ) (h : DexHeader) (before : MethodWords)
      → class_offsets h ≤ length before.clz.offs → class_ids h ≤ length before.clz.ids
      → name_offsets h ≤ length before.name.offs → name_ids h ≤ length before.name.ids → (methods.outcome s h before).number ≢ 4
  pub string_map : (s : List ℕ) (h : DexHeader) (keys : ℕ) → map_keys h ≤ keys → (map_outcome s h.strings.off h.strings.size keys).number ≢ 4
  pub string_search : (w : Area) (q : List ℕ) (r : Result ℕ Refusal) (out out₁ : List ℕ)
      → Found (Owns w q) (search_fault (length w.file) 1 (length q) w.keys) r out out₁
      → strings_found w.keys ≤ length out → answer_number r ≢ 4
  pub type_search : (w : Area) (q : List ℕ) (table : GroupWords) (r : Result ℕ Refusal) (before after : TypeWords)
      → types.Searched w q table r before after
      → strings_found w.keys ≤ length before.strings → types_found table.ids ≤ length before.types → answer_number r ≢ 4
  pub method_search : (w : Area) (q : Query) (table : GroupWords) (h : DexHeader) (r : Result ℕ Refusal) (before after : SearchWords)
      → search.Searched (search_for w q table h.methods) r before after
      → strings_found w.keys ≤ length before.strings → types_found table.ids ≤ length before.types
      → methods_found h ≤ length before.methods → answer_number r ≢ 4
  pub name_filter : (s q given : List ℕ) (r : Result ℕ Refusal) (out out₁ : List ℕ)
      → Found (Named s (le32 s 0x3c) q given) (filter_fault s q given) r out out₁
      → names_kept given ≤ length out → answer_number r ≢ 4
  -- triples and shares by the codes found; a share's number has 31 bits
  pub code_table : (s : List ℕ) (h : DexHeader) (room : Room) → start_words h ≤ room.starts → slot_words (length s) ≤ room.slots
      → code_words (codes_found (codes_of s h)) ≤ room.triples → code_words (codes_found (codes_of s h)) ≤ room.shares
      → codes_found (codes_of s h) ≤ 2 ^ 31 → (build_out s h room).number ≢ 4
  pub scan : (s : List ℕ) (A : ScanAsked) (room : HitRoom) → most_entries A.kind (length s) ≤ room.offs
      → most_entries A.kind (length s) ≤ room.marks → (scan_out s A room).number ≢ 4
  pub locate : (s : List ℕ) (T : Tables) (entries : List ℕ) (answers further : ℕ) → answer_words entries ≤ answers → further_words T.starts ≤ further
      → (locate_out s T entries answers further).number ≢ 4
  pub listing : (shares : List ℕ) (slot room : ℕ) → listed_words shares ≤ room → (list_out shares slot room).number ≢ 4
  pub request : (text : List ℕ) (words : ℕ) → request_words ≤ words → (request_of text words).number ≢ 4

-- for a file as demand 3 supposes, and its codes
pub record NoFourSupposed (s : List ℕ) (h : DexHeader) (codes : List Code) : Type 0 where
  pub code_table : (room : Room) → Longer (build_room (length s) h) room → (build_out s h room).number ≡ 0
  -- for any number of a kind; that it then succeeds for the four kinds is the finder's own promise
  pub finder : (kind : ℕ) (wanted : List ℕ) (w : FindWords) → Enough (length s) h.methods.size kind w
      → (find_out s h kind wanted (lengths_of w)).number ≢ 4
  -- room for the listing of each entry that the finder confirms
  pub listing : (c : Code) → Memᴰ c codes → length (sharing codes c.off) ≤ slot_methods h

abbrev pub EnoughSupposed : Type 0
EnoughSupposed =
    (s : List ℕ) (h : DexHeader) (codes : List Code) → Supposed s h.mapoff h.classes.off h.classes.size h.methods.size codes
    → NoFourSupposed s h codes
