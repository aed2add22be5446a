-- A request, whole: SPEC, The program refs. Nothing may stand after the last line.
-- Assumes nothing.
use Rattle.std.specs.Prelude.{ℕ, zero, suc, ◌≡◌, List, [], ◌∷◌, cond, length, leb, eqb, Option, Some, None, option_map, Result, Ok, Err}
use Rattle.words.specs.Padded.{padded}
use Rattle.refusal.specs.Refusals.{refusal_number}
use Rattle.refusal.specs.declared.Refusal.{Refusal}
use Rattle.tinydex.specs.declared.DexHeader.{DexHeader}
use Rattle.tinydex.specs.declared.Table.{Table}
use Rattle.text_in.specs.declared.Number.{Number}
use Rattle.text_in.specs.Bind.{◌>>=◌}
use Rattle.text_in.specs.Numbers.{number_at}
use Rattle.text_in.specs.Words.{word_at, line_end}
use Rattle.request.specs.Lines.{pair_line, number_line, kind_line, comma}
use Rattle.request.specs.declared.Header.{Header}
use Rattle.request.specs.declared.Request.{Request}

-- the names, letter by letter
abbrev pub strings= : List ℕ
strings= = 115 ∷ 116 ∷ 114 ∷ 105 ∷ 110 ∷ 103 ∷ 115 ∷ 61 ∷ []

abbrev pub types= : List ℕ
types= = 116 ∷ 121 ∷ 112 ∷ 101 ∷ 115 ∷ 61 ∷ []

abbrev pub prototypes= : List ℕ
prototypes= = 112 ∷ 114 ∷ 111 ∷ 116 ∷ 111 ∷ 116 ∷ 121 ∷ 112 ∷ 101 ∷ 115 ∷ 61 ∷ []

abbrev pub fields= : List ℕ
fields= = 102 ∷ 105 ∷ 101 ∷ 108 ∷ 100 ∷ 115 ∷ 61 ∷ []

abbrev pub methods= : List ℕ
methods= = 109 ∷ 101 ∷ 116 ∷ 104 ∷ 111 ∷ 100 ∷ 115 ∷ 61 ∷ []

abbrev pub classes= : List ℕ
classes= = 99 ∷ 108 ∷ 97 ∷ 115 ∷ 115 ∷ 101 ∷ 115 ∷ 61 ∷ []

abbrev pub mapoff= : List ℕ
mapoff= = 109 ∷ 97 ∷ 112 ∷ 111 ∷ 102 ∷ 102 ∷ 61 ∷ []

abbrev pub index= : List ℕ
index= = 105 ∷ 110 ∷ 100 ∷ 101 ∷ 120 ∷ 61 ∷ []

-- the record's last four lines, in their order, after those of the three tables given
unfoldable pub rest_lines : Table → Table → Table → List ℕ → ℕ → Option Header
rest_lines strings types prototypes s i = do
  fields ← pair_line fields= s i
  methods ← pair_line methods= s fields.next
  classes ← pair_line classes= s methods.next
  mapoff ← number_line mapoff= s classes.next
  Some (record {
    header = record {
      strings = strings;
      types = types;
      prototypes = prototypes;
      fields = fields.table;
      methods = methods.table;
      classes = classes.table;
      mapoff = mapoff.value;
    };
    next = mapoff.next;
  })

-- the record's lines, in their order
unfoldable pub header_lines : List ℕ → Option Header
header_lines s = do
  strings ← pair_line strings= s 0
  types ← pair_line types= s strings.next
  prototypes ← pair_line prototypes= s types.next
  rest_lines strings.table types.table prototypes.table s prototypes.next

-- a list of numbers and the place after it
pub record Listed : Type 0 where
  pub list : List ℕ
  pub next : ℕ

abbrev pub cons_to : ℕ → Listed → Listed
cons_to v l = record { list = v ∷ l.list; next = l.next }

-- a number, and the list after its comma; without a comma the number alone
abbrev pub with_more : Number → (ℕ → Option Listed) → Option ℕ → Option Listed
with_more v more None = Some (record { list = v.value ∷ []; next = v.next })
with_more v more (Some i) = option_map (cons_to v.value) (more i)

abbrev pub most_indices : ℕ
most_indices = 16

-- one number or more, at most k, with commas between them
unfoldable pub indices_at : ℕ → List ℕ → ℕ → Option Listed
indices_at zero s i = None
indices_at (suc k) s i = do
  v ← number_at s i
  with_more v (indices_at k s) (word_at comma s v.next)

-- name, indices, line end
unfoldable pub index_line : List ℕ → ℕ → Option Listed
index_line s i = do
  start ← word_at index= s i
  indices ← indices_at most_indices s start
  next ← line_end s indices.next
  Some (record { list = indices.list; next = next })

-- what a text says, whatever is lent: the record, the kind and the indices
pub record Said : Type 0 where
  pub header : DexHeader
  pub kind : ℕ
  pub indices : List ℕ

-- the lines must end the text
abbrev pub to_the_end : List ℕ → DexHeader → ℕ → Listed → Option Said
to_the_end s d kind l = cond (eqb l.next (length s)) (Some (record { header = d; kind = kind; indices = l.list })) None

unfoldable pub said_by : List ℕ → Option Said
said_by s = do
  lines ← header_lines s
  kind ← kind_line s lines.next
  indices ← index_line s kind.next
  to_the_end s lines.header kind.value indices

-- the outcome: the refusal's number, 0 for success, the record, the kind, and the indices, which the lent slice then holds with zeros after
pub record Outcome : Type 0 where
  pub number : ℕ
  pub header : DexHeader
  pub kind : ℕ
  pub indices : List ℕ

abbrev pub no_table : Table
no_table = record { off = 0; size = 0 }

-- zeros in every field
abbrev pub no_header : DexHeader
no_header = record {
  strings = no_table;
  types = no_table;
  prototypes = no_table;
  fields = no_table;
  methods = no_table;
  classes = no_table;
  mapoff = 0;
}

abbrev pub refused : ℕ → Outcome
refused n = record { number = n; header = no_header; kind = 0; indices = [] }

-- 4 only once the whole request is read: more indices than lent words
abbrev pub fitted : ℕ → Option Said → Outcome
fitted room (Some x) =
    cond (leb (length x.indices) room) (record { number = 0; header = x.header; kind = x.kind; indices = x.indices }) (refused 4)
fitted room None = refused 14

-- 14, 4; room counts the lent words
unfoldable pub request_of : List ℕ → ℕ → Outcome
request_of s room = fitted room (said_by s)

-- ---- what an answer says: a refusal its number and else zeros

abbrev pub request_number : Result Request Refusal → ℕ
request_number (Ok q) = 0
request_number (Err x) = refusal_number x

abbrev pub request_header : Result Request Refusal → DexHeader
request_header (Ok q) = q.header
request_header (Err x) = no_header

abbrev pub request_kind : Result Request Refusal → ℕ
request_kind (Ok q) = q.kind
request_kind (Err x) = 0

abbrev pub request_count : Result Request Refusal → ℕ
request_count (Ok q) = q.count
request_count (Err x) = 0

-- answer and lent words are the outcome's
pub record Says (o : Outcome) (q : Result Request Refusal) (before after : List ℕ) : Type 0 where
  pub number : request_number q ≡ o.number
  pub header : request_header q ≡ o.header
  pub kind : request_kind q ≡ o.kind
  pub count : request_count q ≡ length o.indices
  pub wanted : after ≡ padded (length before) o.indices
