-- What the readers of the indices do to the lent words: a step on the way to the request.
-- Assumes nothing.
use Rattle.std.specs.Prelude.{ℕ, ◌+◌, ◌≡◌, List, length, Option, option_map, Result, Err}
use Rattle.std.proofs.lemmas.List.Edits.{sets}
use Rattle.words.specs.Padded.{zeros}
use Rattle.refusal.specs.declared.Refusal.{Refusal}
use Rattle.request.specs.Request.{Listed, Said}
use Rattle.request.specs.declared.Indices.{Indices}
use Rattle.request.specs.declared.Request.{Request}

-- what is stored of a list from place n on: how many words are then stored, the words, and the place in the text
pub record Stored : Type 0 where
  pub count : ℕ
  pub words : List ℕ
  pub next : ℕ

abbrev pub stored : ℕ → List ℕ → Option Listed → Option Stored
stored n ws o = option_map (λ l. record { count = n + length l.list; words = sets ws n l.list; next = l.next }) o

abbrev pub view : Option Indices → List ℕ → Option Stored
view r ws = option_map (λ x. record { count = x.count; words = ws; next = x.next }) r

-- a request whose indices are lent words, as it was answered and as a text says it
unfoldable pub asked : Option Request → List ℕ → Option (Request × List ℕ)
asked r ws = option_map (λ q. (q, ws)) r

unfoldable pub asked_by : List ℕ → Option Said → Option (Request × List ℕ)
asked_by ws o = option_map (λ x. (record { header = x.header; kind = x.kind; count = length x.indices }, sets ws 0 x.indices)) o

-- a refusal, and what it leaves
pub record RefusedBy (why : Refusal) (q : Result Request Refusal) (before after : List ℕ) : Type 0 where
  pub request : q ≡ Err why
  pub cleared : after ≡ zeros (length before)
