-- What the functions that make the lines promise: what is lent, and what an answer says of it.
-- Assumes nothing.
use Rattle.refusal.specs.declared.Refusal.{Refusal}
use Rattle.std.specs.Prelude.{ℕ, ◌≡◌, cond, List, length, eqb, Result}
use Rattle.words.specs.Padded.{zeros}
use Rattle.refusal.specs.Refusals.{answer_number, answer_count}
use Rattle.refusal.specs.Outcomes.{Outcome, Gives}
use Rattle.entry_lines.specs.Line.{Entries}
use Rattle.entry_lines.specs.declared.Entries.{Entries as Lent}

-- what the lent slices hold
abbrev pub entries : Lent → Entries
entries e = record { offs = e.offs.now; marks = e.marks.now; answers = e.answers.now; shares = e.shares.now }

-- the words lent for the methods of a line, and the bytes lent for its text
pub record LineWords : Type 0 where
  pub mids : List ℕ
  pub text : List ℕ

abbrev pub line_words : List ℕ → List ℕ → LineWords
line_words mids text = record { mids = mids; text = text }

-- an answer, the lent bytes and the lent words of one line: the words are zero afterwards
pub record GivesLine (o : Outcome) (r : Result ℕ Refusal) (before after : LineWords) : Type 0 where
  pub line : Gives o r before.text after.text
  pub cleared : after.mids ≡ zeros (length before.mids)

-- an answer of all n lines by its number: how many there are, 0 for a refusal; words and bytes are zero afterwards
pub record Tries (number n : ℕ) (r : Result ℕ Refusal) (before after : LineWords) : Type 0 where
  pub numbered : answer_number r ≡ number
  pub count : answer_count r ≡ cond (eqb number 0) n 0
  pub no_bytes : after.text ≡ zeros (length before.text)
  pub no_words : after.mids ≡ zeros (length before.mids)
