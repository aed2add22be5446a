-- Demand 3, whole, in three parts: what is supposed of a file, what is lent to the finder, what it then delivers. The last definition,
-- `Demand3`, is the clause `demand_3` of `findrefs::find`. Words in quotes are the demand's; what they mean is SPEC, Completeness.
-- Assumes nothing.
use Rattle.std.specs.Prelude.{ℕ, ◌+◌, ◌*◌, ◌/◌, ◌%◌, ◌≤◌, ◌<◌, ◌≡◌, ◌≢◌, cond, length, get_or, eqb}
use mathlib.Core.List.{List, [], ◌∷◌, map, Memᴰ}
use Rattle.refusal.specs.Outcomes.{success}
use Rattle.tinydex.specs.declared.DexHeader.{DexHeader}
use Rattle.dalvik.specs.Numbers.{Bytes}
use Rattle.dalvik.specs.CodeItem.{Code, start, stop}
use Rattle.dalvik.specs.ClassData.{CodesOf}
use Rattle.dalvik.specs.Instructions.{Kind, Reached, InstructionOf, Names}
use Rattle.kinds.specs.Kinds.{kind_number}
use Rattle.code_table.specs.Answer.{TableWords}
use Rattle.code_item_scan.specs.Answers.{HitWords}
use Rattle.insn_locator.specs.Answers.{LocateWords}
use Rattle.slot_listing.specs.Listing.{list_out}

-- ==== Supposed: from the public documents (crate dalvik) and numbers alone. Nothing of the program stands in this part

-- the demand's two limits: its own numbers, so that no limit of the program's narrows what is supposed
abbrev pub most_bytes : ℕ
most_bytes = 16777216

abbrev pub method_limit : ℕ
method_limit = 16777216

-- no number stands in the list twice
unfoldable pub Distinct : List ℕ → Type 0
Distinct [] = Unit {0}
Distinct (m ∷ ms) = (Memᴰ m ms → ⊥) × Distinct ms

-- the methods with code, in the order found
abbrev pub methods_of : List Code → List ℕ
methods_of = map (λ (c : Code). c.method)

-- "two code items coincide or share no byte": an item is its 16 header bytes and its array, c.off up to stop c
pub data CoincideOrApart (c d : Code) : Type 0 where
  coincide : c.off ≡ d.off → c.units ≡ d.units → CoincideOrApart c d
  ends_before : stop c ≤ d.off → CoincideOrApart c d
  begins_after : stop d ≤ c.off → CoincideOrApart c d

-- "whole published instructions", with "payloads anywhere among their instructions": one or more, one after another, up to the array's end
-- exactly. That one of them is an instruction isn't supposed
pub record ArrayOf (s : List ℕ) (c : Code) : Type 0 where
  pub one_or_more : start c < stop c
  pub whole : Reached s (stop c) (start c) (stop c)

-- a code as published: "indices with code are below methods.size and 16,777,216", "code offsets multiples of 4", "code items .. lie inside":
-- an item ends with its array, and the file may end there too
pub record PublishedCode (s : List ℕ) (methods : ℕ) (c : Code) : Type 0 where
  pub below : c.method < methods
  pub small : c.method < method_limit
  pub aligned : c.off % 4 ≡ 0
  pub inside : stop c ≤ length s
  pub array : ArrayOf s c

-- The numbers are the header record's: the map's offset, the class definitions' offset and count, and the count of method ids. It isn't
-- supposed that the record is the file's own: less is supposed than the demand allows
pub record Supposed (s : List ℕ) (mapoff classes_off classes methods : ℕ) (codes : List Code) : Type 0 where
  pub bytes : Bytes s
  -- "a file of at most 16 MiB"
  pub small : length s ≤ most_bytes
  -- "map, class definitions, class data .. lie inside as published": these are the methods with code, in the order found
  pub found : CodesOf s mapoff classes_off classes codes
  -- "no method has code twice"
  pub once : Distinct (methods_of codes)
  pub each : (c : Code) → Memᴰ c codes → PublishedCode s methods c
  pub apart : (c d : Code) → Memᴰ c codes → Memᴰ d codes → CoincideOrApart c d

-- ==== Lent

-- the lent slices of a call, as they stand before it or after it
pub record FindWords : Type 0 where
  -- the code table: start words, triples, slots, shares
  pub table : TableWords
  -- the entries' offsets, and the indices beside them
  pub hits : HitWords
  -- last confirmed offsets, and an answer for each entry: its slot word, or 0 where it isn't confirmed
  pub located : LocateWords

abbrev pub find_words : TableWords → HitWords → LocateWords → FindWords
find_words table hits located = record { table = table; hits = hits; located = located }

-- no more entries than starts that are tried in n bytes: every one for strings, kind 1, and every second for the other kinds
abbrev pub most_entries : ℕ → ℕ → ℕ
most_entries kind n = cond (eqb kind 1) n ((n + 1) / 2)

-- slices that suffice for every supposed file of n bytes, whatever is wanted. A file may do with less: the finder refuses 4 where a slice
-- is shorter than the result
pub record Enough (n methods kind : ℕ) (w : FindWords) : Type 0 where
  pub starts : 2 * methods ≤ length w.table.starts
  pub triples : 3 * methods ≤ length w.table.triples
  pub slots : n / 16 ≤ length w.table.slots
  pub shares : 3 * methods ≤ length w.table.shares
  pub offs : most_entries kind n ≤ length w.hits.offs
  pub marks : most_entries kind n ≤ length w.hits.marks
  pub further : methods ≤ length w.located.further
  pub answers : most_entries kind n ≤ length w.located.answers

-- ==== Delivered

-- the methods whose code item stands at off, as found
abbrev pub sharing : List Code → ℕ → List ℕ
sharing [] off = []
sharing (c ∷ cs) off = cond (eqb c.off off) (c.method ∷ sharing cs off) (sharing cs off)

-- "second found, first found, then the rest as found"
abbrev pub arranged : List ℕ → List ℕ
arranged [] = []
arranged (a ∷ []) = a ∷ []
arranged (a ∷ b ∷ ms) = b ∷ a ∷ ms

-- the slot lists "exactly the methods with that code, each once", that of c: listing it succeeds in every room that holds them
abbrev pub Lists : List Code → Code → List ℕ → ℕ → Type 0
Lists codes c shares slot =
    (room : ℕ) → length (sharing codes c.off) ≤ room → list_out shares slot room ≡ success (arranged (sharing codes c.off))

-- an instruction of the array of c stands at off and names the index, which is wanted
pub record NamesWanted (s : List ℕ) (c : Code) (kind : Kind) (wanted : List ℕ) (off index : ℕ) : Type 0 where
  pub units : ℕ
  pub instruction : InstructionOf s c off units
  pub names : Names s off index kind
  pub is_wanted : Memᴰ index wanted

-- an entry: its offset, the index beside it, and its answer, which is a slot word other than 0 where it is confirmed
pub record Entry : Type 0 where
  pub off : ℕ
  pub index : ℕ
  pub slot : ℕ

abbrev pub entry_at : FindWords → ℕ → Entry
entry_at w k = record { off = get_or w.hits.offs k 0; index = get_or w.hits.marks k 0; slot = get_or w.located.answers k 0 }

-- one of the n entries is a confirmed one with this offset and index, and its slot lists the methods with the code of c
pub record Shows (codes : List Code) (c : Code) (n : ℕ) (w : FindWords) (off index : ℕ) : Type 0 where
  pub k : ℕ
  pub in_list : k < n
  pub offset : (entry_at w k).off ≡ off
  pub mark : (entry_at w k).index ≡ index
  pub confirmed : (entry_at w k).slot ≢ 0
  pub lists : Lists codes c w.table.shares (entry_at w k).slot

-- an entry is a use: at its offset an instruction of the array of c names the index beside it, which is wanted, and its slot lists the methods
-- with the code of c
pub record Use (s : List ℕ) (codes : List Code) (kind : Kind) (wanted shares : List ℕ) (e : Entry) : Type 0 where
  pub c : Code
  pub found : Memᴰ c codes
  pub names : NamesWanted s c kind wanted e.off e.index
  pub lists : Lists codes c shares e.slot

-- of the n entries in the words w, the confirmed ones are "exactly the instructions naming a wanted index"
pub record Delivers (s : List ℕ) (codes : List Code) (kind : Kind) (wanted : List ℕ) (n : ℕ) (w : FindWords) : Type 0 where
  -- none is missing: "Every instruction naming a wanted string, type, field or method index is a confirmed entry .. with that index beside it,
  -- and its slot lists exactly the methods with that code, each once"
  pub none_missing : (c : Code) → Memᴰ c codes → (off index : ℕ) → NamesWanted s c kind wanted off index → Shows codes c n w off index
  -- none is invented: every confirmed entry is such an instruction; "the listing of each confirmed entry's slot .. succeed[s]"
  pub none_invented : (k : ℕ) → k < n → (entry_at w k).slot ≢ 0 → Use s codes kind wanted w.table.shares (entry_at w k)
  -- ".. once, by rising offset"
  pub rising : (i j : ℕ) → i < j → j < n → (entry_at w i).off < (entry_at w j).off

-- what the finder is called with: a file, its header record, a kind's number and the wanted indices
pub record Call : Type 0 where
  pub file : List ℕ
  pub header : DexHeader
  pub kind : ℕ
  pub wanted : List ℕ

abbrev pub call_of : List ℕ → DexHeader → ℕ → List ℕ → Call
call_of file header kind wanted = record { file = file; header = header; kind = kind; wanted = wanted }

-- its answer's number, 0 for success, and how many entries there are
pub record Reply : Type 0 where
  pub number : ℕ
  pub count : ℕ

abbrev pub reply : ℕ → ℕ → Reply
reply number count = record { number = number; count = count }

-- one call on a file with these codes: "lent buffers that suffice" are those with which the answer is not 4
pub record Kept (q : Call) (codes : List Code) (kind : Kind) (before : FindWords) (r : Reply) (after : FindWords) : Type 0 where
  pub enough : Enough (length q.file) q.header.methods.size q.kind before → r.number ≢ 4
  pub succeeds : r.number ≢ 4 → r.number ≡ 0
  pub delivers : r.number ≢ 4 → Delivers q.file codes kind q.wanted r.count after

-- demand 3, of one call: "whichever of the four kinds is asked for, whatever indices are wanted, and whatever stood before"
unfoldable pub Demand3 : Call → FindWords → Reply → FindWords → Type 0
Demand3 q before r after =
    (codes : List Code)
    → Supposed q.file q.header.mapoff q.header.classes.off q.header.classes.size q.header.methods.size codes
    → (kind : Kind) → q.kind ≡ kind_number kind → Kept q codes kind before r after
