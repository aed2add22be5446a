-- An entry stands by itself (SPEC, Locate): what locate promises over the tables that a build left, and of a list that does not fall.
-- Assumes nothing.
use Rattle.refusal.specs.declared.Refusal.{Refusal}
use Rattle.std.specs.Prelude.{ℕ, ◌/◌, ◌≤◌, ◌<◌, ◌≡◌, List, [], ◌∷◌, length, get_or, Result}
use Rattle.words.specs.Padded.{padded}
use Rattle.refusal.specs.Refusals.{answer_number}
use Rattle.refusal.specs.Outcomes.{Outcome, success}
use Rattle.start_words.specs.Starts.{pair_count}
use Rattle.tinydex.specs.declared.DexHeader.{DexHeader}
use Rattle.code_table.specs.Build.{Room, Build, build_out}
use Rattle.insn_locator.specs.Locate.{Tables, locate_out}
use Rattle.insn_locator.specs.Answers.{LocateWords}

-- no number is below one before it
abbrev pub Nondecreasing : List ℕ → Type 0
Nondecreasing ts = (i j : ℕ) → i < j → j < length ts → get_or ts i 0 ≤ get_or ts j 0

-- words that were left, passed on unchanged: all of them, with as many of the zeros after them as one likes
pub record PassedOn (left passed : List ℕ) : Type 0 where
  pub count : ℕ
  pub same : passed ≡ padded count left

-- the tables are those that a build left
pub record LeftBy (B : Build) (T : Tables) : Type 0 where
  pub base : T.base ≡ B.from / 16
  pub slots : PassedOn B.slots T.slots
  pub starts : PassedOn B.starts T.starts
  pub shares : PassedOn B.shares T.shares

-- of the same file, for some record and lent room with which it succeeds
pub record Returned (s : List ℕ) (T : Tables) : Type 0 where
  pub header : DexHeader
  pub room : Room
  pub succeeds : (build_out s header room).number ≡ 0
  pub left : LeftBy (build_out s header room) T

-- the outcome of a list with the entry t alone, with as many words as it needs
abbrev pub alone_out : List ℕ → Tables → ℕ → Outcome
alone_out s T t = locate_out s T (t ∷ []) 1 (pair_count T.starts)

-- of one call of locate
pub record StandsAlone (s : List ℕ) (T : Tables) (entries : List ℕ) (r : Result ℕ Refusal) (before after : LocateWords) : Type 0 where
  -- over the tables of a build it succeeds on every list, with an answer word for each entry and a further word for each pair
  pub succeeds : Returned s T → length entries ≤ length before.answers → pair_count T.starts ≤ length before.further
      → answer_number r ≡ 0
  -- where it succeeds on a list that does not fall, each entry's answer is that of a list with it alone, whatever the tables
  pub each : Nondecreasing entries → answer_number r ≡ 0 → (k : ℕ) → k < length entries
      → alone_out s T (get_or entries k 0) ≡ success (get_or after.answers k 0 ∷ [])
