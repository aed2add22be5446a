-- What a refusal of the lines leaves: the promise of the one step that refuses.
-- Assumes nothing.
use Rattle.std.specs.Prelude.{ℕ, ◌≡◌, length, Result, Err}
use Rattle.words.specs.Padded.{zeros}
use Rattle.refusal.specs.declared.Refusal.{Refusal}
use Rattle.entry_lines.specs.Gives.{LineWords}

-- a refusal, and what it leaves
pub record RefusedBy (why : Refusal) (r : Result ℕ Refusal) (before after : LineWords) : Type 0 where
  pub answer : r ≡ Err why
  pub no_bytes : after.text ≡ zeros (length before.text)
  pub no_words : after.mids ≡ zeros (length before.mids)
