-- What the inner steps of the scan promise each other; the scan itself is Scan.antt.
-- Assumes nothing.
use Rattle.refusal.specs.declared.Refusal.{Refusal}
use Rattle.std.specs.Prelude.{ℕ, ◌+◌, ◌*◌, ◌<◌, ◌≤◌, ◌≡◌, Bool, true, false, cond, ◌&&◌, List, length, get_or, ltb, leb}
use Rattle.std.specs.Prelude.{Option, Some, None, Result, Ok, Err}
use Rattle.std.proofs.lemmas.List.Edits.{sets}
use Rattle.words.specs.Padded.{zeros}
use Rattle.dalvik.specs.Numbers.{byte}
use Rattle.dalvik.specs.Instructions as dalvik
use Rattle.dalvik.specs.Instructions.Kind.{strings}
use Rattle.refusal.specs.Refusals.{largest_file, is_too_large}
use Rattle.refusal.specs.declared.Refusal.TheVariants.{FileTooLarge, UnknownKind, RegionOutside, LentTooShort}
use Rattle.kinds.specs.declared.Kind.{Kind}
use Rattle.kinds.specs.Width.{width_of}
use Rattle.kinds.specs.Kinds.{is_strings, kind_of, meant}
use Rattle.index_set.specs.Bits.{is_held}
use Rattle.code_item_scan.specs.Scan as S
use Rattle.code_item_scan.specs.Scan.{sought, index_at, is_in, hits_by}
use Rattle.code_item_scan.specs.Next.{index_count, tabled, Finds}
use Rattle.code_item_scan.specs.Answers.{HitWords}
use Rattle.code_item_scan.specs.declared.Found.{Found}

-- ---- refusals

-- the first that holds of 1, 2 and 12, for a region of a file of len bytes; else the scan, for the kind asked for
pub data Admitted (len from to kind : ℕ) (r : Result Kind Refusal) : Type 0 where
  large : r ≡ Err FileTooLarge → is_too_large len ≡ true → Admitted len from to kind r
  unknown : r ≡ Err UnknownKind → is_too_large len ≡ false → kind_of kind ≡ None → Admitted len from to kind r
  backward : (k : Kind) → r ≡ Err RegionOutside → is_too_large len ≡ false → kind_of kind ≡ Some (meant k) → to < from → Admitted len from to kind r
  past_end : (k : Kind) → r ≡ Err RegionOutside → is_too_large len ≡ false → kind_of kind ≡ Some (meant k) → from ≤ to → len < to
      → Admitted len from to kind r
  scan : (k : Kind) → r ≡ Ok k → is_too_large len ≡ false → kind_of kind ≡ Some (meant k) → from ≤ to → to ≤ len → Admitted len from to kind r

-- both lent slices are zero
pub record Cleared (before after : HitWords) : Type 0 where
  pub starts : after.offs ≡ zeros (length before.offs)
  pub indices : after.marks ≡ zeros (length before.marks)

abbrev pub fits_both : ℕ → HitWords → Bool
fits_both n words = leb n (length words.offs) && leb n (length words.marks)

-- n hits fit both slices, which stay, or the slices are cleared
pub record Settled (n : ℕ) (before after : HitWords) (r : Result ℕ Refusal) : Type 0 where
  pub answer : r ≡ cond (fits_both n before) (Ok n) (Err LentTooShort)
  pub starts : after.offs ≡ cond (fits_both n before) before.offs (zeros (length before.offs))
  pub indices : after.marks ≡ cond (fits_both n before) before.marks (zeros (length before.marks))

-- ---- the sets of wanted indices

abbrev pub bit : Bool → ℕ
bit true = 1
bit false = 0

-- a table of the wanted indices of two bytes
pub record TableOf (wanted table : List ℕ) : Type 0 where
  pub long : length table ≡ index_count
  pub at : (x : ℕ) → x < index_count → get_or table x 0 ≡ bit (is_in x wanted)

-- no index is held
abbrev pub NoneHeld : List ℕ → Type 0
NoneHeld bits = (x : ℕ) → is_held bits x ≡ false

-- the set of the wanted words that have a bit in the words, and whether there are others
pub record WantedOf (wanted bits : List ℕ) (others : Bool) : Type 0 where
  pub at : (x : ℕ) → x < 64 * length bits → is_held bits x ≡ is_in x wanted
  pub none_other : others ≡ false → (x : ℕ) → 64 * length bits ≤ x → is_in x wanted ≡ false

-- ---- one start

-- the wanted index that the bytes at p name, whether p is tried or not
abbrev pub named_by : List ℕ → (ℕ → Bool) → ℕ → ℕ → ℕ → Option ℕ
named_by s wants to p w = cond (ltb 0 w && leb (p + 2 + w) to && wants (index_at s (p + 2) w)) (Some (index_at s (p + 2) w)) None

unfoldable pub named : List ℕ → dalvik.Kind → (ℕ → Bool) → ℕ → ℕ → Option ℕ
named s kind wants to p = named_by s wants to p (width_of kind (byte s p))

-- a table that tells for each index of two bytes whether it is wanted
abbrev pub Told : List ℕ → (ℕ → Bool) → Type 0
Told table wants = (x : ℕ) → x < index_count → tabled table x ≡ wants x

-- what an index of two bytes, looked up in a table, tells of a start
pub record EvenHit (s : List ℕ) (kind : dalvik.Kind) (table : List ℕ) (p : ℕ) (mark : Option ℕ) : Type 0 where
  pub is : (wants : ℕ → Bool) (to : ℕ) → Told table wants → p + 4 ≤ to → mark ≡ named s kind wants to p

-- ---- starts that are skipped

-- no string hit starts from p up to r
pub record Skipped (s : List ℕ) (to p r : ℕ) : Type 0 where
  pub onward : p ≤ r
  pub inside : r ≤ to
  pub same : (wants : ℕ → Bool) → hits_by s (sought strings wants p to) ≡ hits_by s (sought strings wants r to)

-- no hit of another kind starts from p up to r
pub record SkippedEven (s : List ℕ) (to : ℕ) (table : List ℕ) (p r : ℕ) : Type 0 where
  pub onward : p ≤ r
  pub inside : r ≤ to
  pub same : (kind : dalvik.Kind) (wants : ℕ → Bool) → is_strings kind ≡ false → Told table wants
      → hits_by s (sought kind wants p to) ≡ hits_by s (sought kind wants r to)

-- the next hit of a kind other than strings
abbrev pub FindsEven : List ℕ → dalvik.Kind → List ℕ → ℕ → ℕ → Option Found → Type 0
FindsEven s kind table from to r = (wants : ℕ → Bool) → Told table wants → Finds s (sought kind wants from to) r

-- ---- the whole region

-- a region inside a file that is not too large
pub record Region (s : List ℕ) (from to : ℕ) : Type 0 where
  pub forward : from ≤ to
  pub inside : to ≤ length s
  pub small : length s ≤ largest_file

-- n hits, and what storing them makes of lent words; a store past the end changes nothing
pub record Collected (hits : List S.Hit) (before after : HitWords) (n : ℕ) : Type 0 where
  pub counted : n ≡ length hits
  pub starts : after.offs ≡ sets before.offs 0 (S.offs hits)
  pub indices : after.marks ≡ sets before.marks 0 (S.marks hits)
