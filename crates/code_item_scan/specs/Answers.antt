-- The promise of the scan: answer and lent words are the outcome's (Scan.antt).
-- Assumes nothing.
use Rattle.refusal.specs.declared.Refusal.{Refusal}
use Rattle.std.specs.Prelude.{ℕ, ◌≡◌, List, length, Result}
use Rattle.words.specs.Padded.{padded}
use Rattle.refusal.specs.Refusals.{answer_number, answer_count}
use Rattle.code_item_scan.specs.Scan as S

-- the words lent for offsets and for indices
pub record HitWords : Type 0 where
  pub offs : List ℕ
  pub marks : List ℕ

abbrev pub hit_words : List ℕ → List ℕ → HitWords
hit_words offs marks = record { offs = offs; marks = marks }

abbrev pub hit_room_of : HitWords → S.HitRoom
hit_room_of w = S.hit_room (length w.offs) (length w.marks)

-- an answer and the lent words are the outcome's: the hits' offsets and the indices beside them, and zeros after them
pub record Gives (o : S.Scan) (r : Result ℕ Refusal) (before after : HitWords) : Type 0 where
  pub number : answer_number r ≡ o.number
  pub count : answer_count r ≡ length o.hits
  pub starts : after.offs ≡ padded (length before.offs) (S.offs o.hits)
  pub indices : after.marks ≡ padded (length before.marks) (S.marks o.hits)
