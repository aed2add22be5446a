-- What the writers leave in lent bytes, whatever stands there and wherever they write.
-- Assumes nothing.
use Rattle.refusal.specs.declared.Refusal.{Refusal}
use Rattle.std.specs.Prelude.{ℕ, ◌+◌, min, ◌≡◌, List, [], ◌∷◌, cond, length, set, ltb, Result}
use Rattle.std.proofs.lemmas.List.Edits.{sets}
use Rattle.words.specs.Padded.{zeros}
use Rattle.refusal.specs.Refusals.{answer_number, answer_count}

-- the place after bytes that are written from a place on, of room bytes: one after the last where they pass it
unfoldable pub place_after : ℕ → ℕ → List ℕ → ℕ
place_after room at [] = at
place_after room at (b ∷ bs) = min (at + length (b ∷ bs)) (room + 1)

-- bytes written one after another; those past the end are lost
pub record Writes (before : List ℕ) (at : ℕ) (bytes : List ℕ) (after : List ℕ) (next : ℕ) : Type 0 where
  pub written : after ≡ sets before at bytes
  pub place : next ≡ place_after (length before) at bytes

-- a line feed at a place: the refusal's number, how many bytes the text then has, and the lent bytes
pub record End : Type 0 where
  pub number : ℕ
  pub count : ℕ
  pub bytes : List ℕ

-- 4 where the place lies past the bytes, and then all are zero
unfoldable pub end_at : List ℕ → ℕ → End
end_at bytes at =
    cond (ltb at (length bytes))
    (record { number = 0; count = at + 1; bytes = set bytes at 10 })
    (record { number = 4; count = 0; bytes = zeros (length bytes) })

pub record Ends (e : End) (r : Result ℕ Refusal) (after : List ℕ) : Type 0 where
  pub number : answer_number r ≡ e.number
  pub count : answer_count r ≡ e.count
  pub bytes : after ≡ e.bytes
