-- What the private steps of the walk ask for and promise each other. A step's answer says what is still to be walked from there, so that
-- each contract speaks of the definitions in Walk, Codes and Stored. In the order of the work: what is read of a method, what is stored, one
-- method, an item, and all items.
-- Assumes nothing.
use Rattle.std.specs.Prelude.{ℕ, suc, ◌+◌, ◌*◌, ◌^◌, ◌<◌, ◌≤◌, ◌≡◌, cond, List, [], ◌∷◌, length, Option, Some, None, Result, Ok, Err, MatchOption}
use Rattle.std.proofs.lemmas.List.Edits.{sets}
use Rattle.dalvik.specs.CodeItem.{Code, header_size, insns_size}
use Rattle.refusal.specs.Refusals.{largest_file}
use Rattle.refusal.specs.declared.Refusal.{Refusal}
use Rattle.class_data.specs.Walk.{Walk, following, code_inside, with_method, methods_from}
use Rattle.class_data.specs.Walk.Walk.{refused, found}
use Rattle.class_data.specs.Codes.{defined}
use Rattle.class_data.specs.Stored.{CodeWords, code_words, triples_of, starts_from}
use Rattle.class_data.specs.Found.{GivesCodes}
use Rattle.class_data.specs.declared.item.Head.{Head}
use Rattle.class_data.specs.declared.item.Method.{Method}
use Rattle.class_data.specs.declared.parse.At.{At}
use Rattle.class_data.specs.declared.parse.Walked.{Walked}

-- ---- what is read of a method
-- a method whose numbers were read; m is the index before it
pub record HeadAt (s : List ℕ) (i m : ℕ) (x : Head) : Type 0 where
  pub rest : (methods n : ℕ) → with_method s methods x.idx x.code (methods_from n s methods x.pos x.idx) ≡ methods_from (suc n) s methods i m
  pub on : i < x.pos
  pub inside : x.pos ≤ length s

-- that, or why the numbers are refused: the walk is refused so, whatever else is to be walked
unfoldable pub HeadRead : List ℕ → ℕ → ℕ → Result Head Refusal → Type 0
HeadRead s i m (Ok x) = HeadAt s i m x
HeadRead s i m (Err r) = (methods n : ℕ) → refused r ≡ methods_from (suc n) s methods i m

-- the units of the code item at c
unfoldable pub item_at : List ℕ → ℕ → Option ℕ
item_at s c = cond (code_inside s c) (Some (insns_size s c)) None

-- a method without code
pub record BareAt (s : List ℕ) (methods i m p j : ℕ) : Type 0 where
  pub rest : (n : ℕ) → methods_from n s methods p j ≡ methods_from (suc n) s methods i m
  pub on : i < p
  pub inside : p ≤ length s

-- a method with code
pub record CodedAt (s : List ℕ) (methods i m p : ℕ) (code : Code) : Type 0 where
  pub rest : (n : ℕ) → following (code ∷ []) (methods_from n s methods p code.method) ≡ methods_from (suc n) s methods i m
  pub on : i < p
  pub inside : p ≤ length s
  pub some : 0 < code.units
  pub fits : code.off + header_size + 2 * code.units ≤ length s

-- a method at i, read: one of these
abbrev pub MethodAt : List ℕ → ℕ → ℕ → ℕ → Method → Type 0
MethodAt s methods i m x =
    MatchOption x.code (BareAt s methods i m x.pos x.idx)
    (λ c. CodedAt s methods i m x.pos (record { method = x.idx; off = c.off; units = c.units }))

-- that, or why it is refused
unfoldable pub MethodRead : List ℕ → ℕ → ℕ → ℕ → Result Method Refusal → Type 0
MethodRead s methods i m (Ok x) = MethodAt s methods i m x
MethodRead s methods i m (Err r) = (n : ℕ) → refused r ≡ methods_from (suc n) s methods i m

-- ---- what is stored so far: how many codes, and the lent words
pub record Kept : Type 0 where
  pub count : ℕ
  pub words : CodeWords

abbrev pub kept : ℕ → CodeWords → Kept
kept count words = record { count = count; words = words }

-- and codes cs after that; a word that does not fit is not stored
abbrev pub more : Kept → List Code → Kept
more x cs =
    kept (x.count + length cs) (code_words (sets x.words.triples (3 * x.count) (triples_of cs)) (starts_from x.words.starts cs))

-- ---- what a walk leaves: its end, and what is stored then. A walk that is refused leaves any words
pub data Left : Type 0 where
  refusal : Refusal → Left
  left : ℕ → Kept → Left

unfoldable pub stored : Kept → Walk → Left
stored x (refused r) = refusal r
stored x (found cs e) = left e (more x cs)

-- an answer and the lent words, beside what is to be stored
unfoldable pub seen : Result Walked Refusal → CodeWords → Left
seen (Err r) words = refusal r
seen (Ok x) words = left x.next (kept x.count words)

-- ---- one code, number k. The limits on k, here and below, keep sums in 64 bits: an item has fewer codes than the file has bytes
pub record StorePre (k c units : ℕ) : Type 0 where
  pub few : k < 2 ^ 62
  pub small : c + 16 + 2 * units ≤ largest_file
  pub some : 0 < units

-- the words with the code of method m at c
abbrev pub with_code : Kept → ℕ → ℕ → ℕ → CodeWords
with_code x m c units = (more x (record { method = m; off = c; units = units } ∷ [])).words

-- ---- one method
pub record StepPre (s : List ℕ) (a : At) : Type 0 where
  pub small : length s ≤ largest_file
  pub few : a.count < 2 ^ 62

-- what is left to walk from b is what was left to walk from a
pub record Stepped (s : List ℕ) (methods : ℕ) (a b : At) (before after : CodeWords) : Type 0 where
  pub rest : (n : ℕ) → stored (kept b.count after) (methods_from n s methods b.pos b.idx)
      ≡ stored (kept a.count before) (methods_from (suc n) s methods a.pos a.idx)
  pub on : a.pos < b.pos
  pub inside : b.pos ≤ length s
  pub one : b.count ≤ a.count + 1

unfoldable pub Onward : List ℕ → ℕ → At → Result At Refusal → CodeWords → CodeWords → Type 0
Onward s methods a (Ok b) before after = Stepped s methods a b before after
Onward s methods a (Err r) before after = (n : ℕ) → refused r ≡ methods_from (suc n) s methods a.pos a.idx

pub record MethodsPre (s : List ℕ) (i k : ℕ) : Type 0 where
  pub small : length s ≤ largest_file
  pub place : i ≤ largest_file
  pub few : k + largest_file < 2 ^ 62 + i

-- ---- a class data item
pub record ItemPre (s : List ℕ) (k : ℕ) : Type 0 where
  pub small : length s ≤ largest_file
  pub few : k + largest_file < 2 ^ 62

-- ---- an entry of the map: it lies inside
pub record EntryPre (s : List ℕ) (e : ℕ) : Type 0 where
  pub small : length s ≤ largest_file
  pub inside : e + 12 ≤ length s

-- ---- a class definition: what is left to walk after it
pub record DefPre (s : List ℕ) (i k : ℕ) : Type 0 where
  pub small : length s ≤ largest_file
  pub place : i < 2 ^ 62
  pub few : k + largest_file < 2 ^ 62

pub record DefinedOn (s : List ℕ) (methods i : ℕ) (x y : Kept) : Type 0 where
  pub rest : (n : ℕ) → stored y (defined n s methods (i + 32)) ≡ stored x (defined (suc n) s methods i)
  pub few : y.count ≤ x.count + length s

unfoldable pub OneDefined : List ℕ → ℕ → ℕ → Kept → Result Walked Refusal → CodeWords → Type 0
OneDefined s methods i x (Ok y) after = DefinedOn s methods i x (kept y.count after)
OneDefined s methods i x (Err r) after = (n : ℕ) → refused r ≡ defined (suc n) s methods i

-- ---- the walk into cleared words: the outcome of `codes`, but for the words of a refusal
unfoldable pub FitCodes : ℕ → Walk → Result ℕ Refusal → CodeWords → CodeWords → Type 0
FitCodes m w (Ok n) before after = GivesCodes m w (Ok n) before after
FitCodes m w (Err r) before after = refused r ≡ w
