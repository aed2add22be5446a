-- The line of an entry whose slot word is given: its methods listed, then its text. A listing that is refused refuses the line, and lists
-- that don't hold the entry are refused first.
-- Assumes nothing.
use Rattle.std.specs.Prelude.{ℕ, zero, suc, ◌+◌, List, Bool, cond, ◌&&◌, length, get_or, eqb, ltb}
use Rattle.refusal.specs.Outcomes.{Outcome, refused}
use Rattle.slot_listing.specs.Listing.{list_out}
use Rattle.listing_text.specs.Text.{entry_out}

-- the lists of the entries, and the shares that their slot words stand for
pub record Entries : Type 0 where
  pub offs : List ℕ
  pub marks : List ℕ
  pub answers : List ℕ
  pub shares : List ℕ

abbrev pub line_by : ℕ → ℕ → Outcome → ℕ → Outcome
line_by off idx o room = cond (eqb o.number 0) (entry_out off idx o.list room) (refused o.number)

-- for the numbers of words and bytes lent
unfoldable pub line_out : ℕ → ℕ → ℕ → List ℕ → ℕ → ℕ → Outcome
line_out off idx slot shares words bytes = line_by off idx (list_out shares slot words) bytes

-- each entry has an offset, an index and an answer
unfoldable pub alike : List ℕ → List ℕ → List ℕ → Bool
alike offs marks answers = eqb (length marks) (length offs) && eqb (length answers) (length offs)

-- of the entry at i: 15 where the lists don't hold it
unfoldable pub line_at : Entries → ℕ → ℕ → ℕ → Outcome
line_at E words bytes i =
    cond (alike E.offs E.marks E.answers && ltb i (length E.offs))
    (line_out (get_or E.offs i 0) (get_or E.marks i 0) (get_or E.answers i 0) E.shares words bytes)
    (refused 15)

-- the number of the first outcome that is refused, of the k from i on, and 0 where none is
unfoldable pub first_refused : (ℕ → Outcome) → ℕ → ℕ → ℕ
first_refused f zero i = 0
first_refused f (suc k) i = cond (eqb (f i).number 0) (first_refused f k (i + 1)) (f i).number

-- of all entries: 15 for lists that aren't alike, also where there is no offset
unfoldable pub tried_out : Entries → ℕ → ℕ → ℕ
tried_out E words bytes = cond (alike E.offs E.marks E.answers) (first_refused (line_at E words bytes) (length E.offs) 0) 15
