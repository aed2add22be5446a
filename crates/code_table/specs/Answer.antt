-- What the contract of `parse` says: the lent words before and after, the refusal's number, the region and the counts of an answer, case by
-- case, and that answer and lent words are the outcome's.
-- Assumes nothing.
use Rattle.std.specs.Prelude.{ℕ, ◌*◌, ◌≡◌, List, length, Result, Ok, Err}
use Rattle.words.specs.Padded.{padded}
use Rattle.refusal.specs.declared.Refusal.{Refusal}
use Rattle.refusal.specs.Refusals.{refusal_number}
use Rattle.code_table.specs.Build.{Room, Build}
use Rattle.code_table.specs.declared.Region.{Region}
use Rattle.code_table.specs.declared.Built.{Built}

-- 0 for success
abbrev pub built_number : Result Built Refusal → ℕ
built_number (Ok b) = 0
built_number (Err r) = refusal_number r

-- 0 to 0 for a refusal
abbrev pub built_region : Result Built Refusal → Region
built_region (Ok b) = b.region
built_region (Err r) = record { start = 0; end = 0 }

-- the codes found, 0 for a refusal
abbrev pub built_codes : Result Built Refusal → ℕ
built_codes (Ok b) = b.codes
built_codes (Err r) = 0

-- the slots in use, 0 for a refusal
abbrev pub built_slots : Result Built Refusal → ℕ
built_slots (Ok b) = b.slots
built_slots (Err r) = 0

-- the words of shares in use, 0 for a refusal
abbrev pub built_shares : Result Built Refusal → ℕ
built_shares (Ok b) = b.shares
built_shares (Err r) = 0

-- the four lent slices
pub record TableWords : Type 0 where
  pub starts : List ℕ
  pub triples : List ℕ
  pub slots : List ℕ
  pub shares : List ℕ

abbrev pub table_words : List ℕ → List ℕ → List ℕ → List ℕ → TableWords
table_words starts triples slots shares = record { starts = starts; triples = triples; slots = slots; shares = shares }

-- the room that they have
abbrev pub room_of : TableWords → Room
room_of w = record { starts = length w.starts; triples = length w.triples; slots = length w.slots; shares = length w.shares }

-- an answer and the lent slices are the outcome's: each slice holds its list, and zeros after it
pub record GivesBuild (b : Build) (r : Result Built Refusal) (before after : TableWords) : Type 0 where
  pub number : built_number r ≡ b.number
  pub from : (built_region r).start ≡ b.from
  pub to : (built_region r).end ≡ b.to
  pub code_count : 3 * built_codes r ≡ length b.triples
  pub slot_count : built_slots r ≡ length b.slots
  pub share_words : built_shares r ≡ length b.shares
  pub starts : after.starts ≡ padded (length before.starts) b.starts
  pub triples : after.triples ≡ padded (length before.triples) b.triples
  pub slots : after.slots ≡ padded (length before.slots) b.slots
  pub shares : after.shares ≡ padded (length before.shares) b.shares
