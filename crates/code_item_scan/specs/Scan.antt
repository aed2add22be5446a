-- The scan of a region (SPEC, Scan): the places that look like an instruction of the kind asked for
-- with a wanted index. Kinds and widths are kinds's. What an instruction is and what it names is dalvik's; that none is lost is demand 3.
-- Assumes nothing.
use Rattle.std.specs.Prelude.{ℕ, zero, suc, ◌+◌, ◌-◌, ◌%◌, List, [], ◌∷◌, map, Bool, true, false, cond, ◌&&◌, ◌||◌, length, ltb, leb, eqb}
use Rattle.std.specs.Prelude.{Option, Some, None}
use Rattle.dalvik.specs.Numbers.{byte, le16, le32}
use Rattle.dalvik.specs.Instructions.{Kind}
use Rattle.dalvik.specs.Instructions.Kind.{strings, types, fields, methods}
use Rattle.refusal.specs.Refusals.{is_too_large}
use Rattle.kinds.specs.Width.{width_of}
use Rattle.kinds.specs.Kinds.{kind_of}

-- the index of the given width at i
unfoldable pub index_at : List ℕ → ℕ → ℕ → ℕ
index_at s i w = cond (eqb w 4) (le32 s i) (le16 s i)

-- strings are tried at every start, other kinds at even starts, counted from the region's first byte
unfoldable pub is_tried : Kind → ℕ → Bool
is_tried strings d = true
is_tried types d = eqb (d % 2) 0
is_tried fields d = eqb (d % 2) 0
is_tried methods d = eqb (d % 2) 0

-- x is one of the words
abbrev pub is_in : ℕ → List ℕ → Bool
is_in x [] = false
is_in x (y ∷ ys) = eqb x y || is_in x ys

-- a hit's offset, and the index that stands there
pub record Hit : Type 0 where
  pub off : ℕ
  pub mark : ℕ

-- what is looked for: a kind, the indices that are wanted, and the region
pub record Sought : Type 0 where
  pub kind : Kind
  pub wants : ℕ → Bool
  pub from : ℕ
  pub to : ℕ

abbrev pub sought : Kind → (ℕ → Bool) → ℕ → ℕ → Sought
sought kind wants from to = record { kind = kind; wants = wants; from = from; to = to }

abbrev pub index_by : List ℕ → Kind → ℕ → ℕ
index_by s kind p = index_at s (p + 2) (width_of kind (byte s p))

-- the start p is a hit: tried, the opcode of the kind, the index inside the region and wanted
abbrev pub is_hit : List ℕ → Sought → ℕ → Bool
is_hit s Q p =
    is_tried Q.kind (p - Q.from) && ltb 0 (width_of Q.kind (byte s p)) && leb (p + 2 + width_of Q.kind (byte s p)) Q.to
    && Q.wants (index_by s Q.kind p)

abbrev pub hit_at : List ℕ → Kind → ℕ → Hit
hit_at s kind p = record { off = p; mark = index_by s kind p }

-- the hits among n starts from p on, rising
unfoldable pub hits_in : ℕ → List ℕ → Sought → ℕ → List Hit
hits_in zero s Q p = []
hits_in (suc n) s Q p = cond (is_hit s Q p) (hit_at s Q.kind p ∷ hits_in n s Q (suc p)) (hits_in n s Q (suc p))

-- the hits of the region
unfoldable pub hits_by : List ℕ → Sought → List Hit
hits_by s Q = hits_in (Q.to - Q.from) s Q Q.from

-- the same for wanted words, in any order
abbrev pub hits_of : List ℕ → Kind → List ℕ → ℕ → ℕ → List Hit
hits_of s kind wanted from to = hits_by s (sought kind (λ x. is_in x wanted) from to)

abbrev pub offs : List Hit → List ℕ
offs = map (λ (h : Hit). h.off)

abbrev pub marks : List Hit → List ℕ
marks = map (λ (h : Hit). h.mark)

-- the outcome: the refusal's number, 0 for success, and the hits; a refusal has none. Both lent slices must hold all hits
pub record Scan : Type 0 where
  pub number : ℕ
  pub hits : List Hit

abbrev pub no_scan : ℕ → Scan
no_scan n = record { number = n; hits = [] }

-- what is asked of a scan: the kind's number, the wanted words, and the region
pub record Asked : Type 0 where
  pub kind : ℕ
  pub wanted : List ℕ
  pub from : ℕ
  pub to : ℕ

abbrev pub asked : ℕ → List ℕ → ℕ → ℕ → Asked
asked kind wanted from to = record { kind = kind; wanted = wanted; from = from; to = to }

-- how many words are lent for offsets and for indices
pub record HitRoom : Type 0 where
  pub offs : ℕ
  pub marks : ℕ

abbrev pub hit_room : ℕ → ℕ → HitRoom
hit_room offs marks = record { offs = offs; marks = marks }

abbrev pub scanned : HitRoom → List Hit → Scan
scanned R hits = cond (leb (length hits) R.offs && leb (length hits) R.marks) (record { number = 0; hits = hits }) (no_scan 4)

abbrev pub scanned_as : List ℕ → Asked → HitRoom → Option Kind → Scan
scanned_as s A R None = no_scan 2
scanned_as s A R (Some kind) =
    cond (leb A.from A.to && leb A.to (length s)) (scanned R (hits_of s kind A.wanted A.from A.to)) (no_scan 12)

-- 1, 2, 12, 4
unfoldable pub scan_out : List ℕ → Asked → HitRoom → Scan
scan_out s A R = cond (is_too_large (length s)) (no_scan 1) (scanned_as s A R (kind_of A.kind))
