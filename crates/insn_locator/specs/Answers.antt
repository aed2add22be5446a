-- The promises of locate and of its one entry: answers and lent words are the outcome's (Locate.antt).
-- Assumes nothing.
use Rattle.refusal.specs.declared.Refusal.{Refusal}
use Rattle.std.specs.Prelude.{ℕ, ◌≡◌, List, length, Option, Some, None, Result}
use Rattle.words.specs.Padded.{zeros}
use Rattle.refusal.specs.Outcomes.{Outcome, Gives}
use Rattle.insn_locator.specs.Locate.{Tables, Answered}

abbrev pub tables : ℕ → List ℕ → List ℕ → List ℕ → Tables
tables base slots starts shares = record { base = base; slots = slots; starts = starts; shares = shares }

-- an entry's answer, with the last confirmed offsets after it; a fault says nothing of the words
abbrev pub entry_of : Option ℕ → List ℕ → Option Answered
entry_of (Some a) last = Some (record { answer = a; last = last })
entry_of None last = None

-- the words lent for last confirmed offsets, and for answers
pub record LocateWords : Type 0 where
  pub further : List ℕ
  pub answers : List ℕ

abbrev pub locate_words : List ℕ → List ℕ → LocateWords
locate_words further answers = record { further = further; answers = answers }

-- the answers are the outcome's, and the words for last confirmed offsets are zero again
pub record Located (o : Outcome) (r : Result ℕ Refusal) (before after : LocateWords) : Type 0 where
  pub answer : Gives o r before.answers after.answers
  pub further : after.further ≡ zeros (length before.further)
