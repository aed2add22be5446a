-- What the inner steps of locate promise each other.
-- Assumes nothing.
use Rattle.std.specs.Prelude.{ℕ, ◌≤◌, ◌≡◌, ◌≢◌, Bool, true, false, ◌&&◌, List, [], ◌∷◌, length, get_or, ltb, leb, Option, Some, None}
use Rattle.std.proofs.lemmas.List.Edits.{sets}
use Rattle.start_words.specs.Starts.{pair_of}
use Rattle.start_words.specs.declared.Pair.{Pair}
use Rattle.insn_walk.specs.Walk.{lands}
use Rattle.insn_locator.specs.Locate.{Tables, Answered, from_of}
use Rattle.insn_locator.specs.Answers.{entry_of}

-- answers stored from place i on
abbrev pub stored : List ℕ → ℕ → Option (List ℕ) → Option (List ℕ)
stored out i None = None
stored out i (Some xs) = Some (sets out i xs)

-- the words after a run over a list of entries: all answered, or one at fault
abbrev pub ran_to : Option (Unit {0}) → List ℕ → Option (List ℕ)
ran_to (Some _) out = Some out
ran_to None out = None

-- ---- a list that does not fall: a method's word holds where its walk stands

-- no word is below the one before it, nor the first below b
unfoldable pub climbs : ℕ → List ℕ → Bool
climbs b [] = true
climbs b (t ∷ ts) = leb b t && climbs t ts

-- the walk from a place other than 0 lands on u
abbrev pub walks : List ℕ → ℕ → ℕ → Bool
walks s from u = ltb 0 from && lands s from u

-- after an entry at t the walk of method m, which has this start, goes on as it would have before it; the other methods' words stay
pub record GoesOn (s : List ℕ) (start m t : ℕ) (before after : List ℕ) : Type 0 where
  pub same : (u : ℕ) → t ≤ u → walks s (from_of start (get_or after m 0)) u ≡ walks s (from_of start (get_or before m 0)) u
  pub others : (k : ℕ) → k ≢ m → get_or after k 0 ≡ get_or before k 0

-- for entries from low on each method's walk goes on as from its start
abbrev pub Ready : List ℕ → Tables → ℕ → List ℕ → Type 0
Ready s T low last =
    (m : ℕ) (p : Pair) → pair_of T.starts m ≡ Some p → (u : ℕ) → low ≤ u → walks s (from_of p.start (get_or last m 0)) u ≡ walks s p.start u

-- an entry at t keeps it so
abbrev pub ReadyOn : List ℕ → Tables → ℕ → List ℕ → List ℕ → Type 0
ReadyOn s T t before after = (low : ℕ) → low ≤ t → Ready s T low before → Ready s T t after

-- it is so of the entries that are left, which do not fall
pub record Onward (s : List ℕ) (T : Tables) (last ts : List ℕ) : Type 0 where
  pub low : ℕ
  pub ready : Ready s T low last
  pub climbs : climbs low ts ≡ true

-- what a run over the entries asks for: an answer word for each, and onward that they do not fall
pub record RunPre (onward : Bool) (s : List ℕ) (T : Tables) (last entries answers : List ℕ) : Type 0 where
  pub room : length entries ≤ length answers
  pub goes_on : onward ≡ true → Onward s T last entries

-- ---- an entry in either way: with the definition's words, or onward, with other words for the same answer

-- its method's walk tried
pub record Tried (onward : Bool) (goal done : Answered) : Type 0 where
  pub answer : done.answer ≡ goal.answer
  pub whole : onward ≡ false → done ≡ goal

abbrev pub answer_of : Option Answered → Option ℕ
answer_of None = None
answer_of (Some r) = Some r.answer

-- the entry answered
pub record EntryIn (onward : Bool) (goal : Option Answered) (r : Option ℕ) (last : List ℕ) : Type 0 where
  pub answer : r ≡ answer_of goal
  pub whole : onward ≡ false → entry_of r last ≡ goal
