-- The outcome of an operation that fills one lent slice of words: the refusal's number, 0 for success, and the list.
-- Assumes nothing.
use Rattle.refusal.specs.declared.Refusal.{Refusal}
use Rattle.std.specs.Prelude.{ℕ, ◌≡◌, List, [], length, Result}
use Rattle.words.specs.Padded.{padded}
use Rattle.refusal.specs.Refusals.{answer_number, answer_count}

pub record Outcome : Type 0 where
  pub number : ℕ
  pub list : List ℕ

-- a refusal has the empty list
abbrev pub refused : ℕ → Outcome
refused n = record { number = n; list = [] }

abbrev pub success : List ℕ → Outcome
success xs = record { number = 0; list = xs }

-- an answer and the lent words are the outcome's: the list, and zeros after it
pub record Gives (o : Outcome) (r : Result ℕ Refusal) (before after : List ℕ) : Type 0 where
  pub number : answer_number r ≡ o.number
  pub count : answer_count r ≡ length o.list
  pub words : after ≡ padded (length before) o.list
