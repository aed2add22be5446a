-- A set in two parts: marks, for the words that they have a bit for, and a rising list of n words for the others. What joining it yields,
-- in any marks and words; that nothing is lost and nothing added is proofs/Marking.antt.
-- Assumes nothing.
use Rattle.std.specs.Prelude.{ℕ, ◌≡◌, true, false, List, [], ◌∷◌, Option, Some, None}
use Rattle.word_set.specs.Sets.{Inserts}
use Rattle.index_set.specs.Bits.{Adds}

-- what is lent for such a set: the marks, and the words for the list
pub record SetWords : Type 0 where
  pub marks : List ℕ
  pub words : List ℕ

abbrev pub set_words : List ℕ → List ℕ → SetWords
set_words ms ws = record { marks = ms; words = ws }

-- x is marked; or the marks have no bit for it, and it is inserted among the n words held
pub data Added (x n : ℕ) (before after : SetWords) (r : Option ℕ) : Type 0 where
  marked : Adds x before.marks after.marks true → after.words ≡ before.words → r ≡ Some n → Added x n before after r
  inserted : Adds x before.marks after.marks false → Inserts x n before.words after.words r → Added x n before after r

-- the words of a list, one after another, until one finds no room
pub data AddedAll : List ℕ → ℕ → SetWords → SetWords → Option ℕ → Type 0 where
  none : {n : ℕ} {w : SetWords} → AddedAll [] n w w (Some n)
  next : {x n k : ℕ} {xs : List ℕ} {w v u : SetWords} {r : (Option ℕ)} → Added x n w v (Some k) → AddedAll xs k v u r → AddedAll (x ∷ xs) n w u r
  stop : {x n : ℕ} {xs : List ℕ} {w v : SetWords} → Added x n w v None → AddedAll (x ∷ xs) n w v None
