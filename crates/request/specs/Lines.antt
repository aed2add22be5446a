-- The lines of a request: SPEC, The program refs. A line is a name, then numbers or a kind, and its end.
-- Assumes nothing.
use Rattle.std.specs.Prelude.{ℕ, List, [], ◌∷◌, Option, Some}
use Rattle.std.specs.Option.{option_or}
use Rattle.text_in.specs.declared.Number.{Number}
use Rattle.text_in.specs.Bind.{◌>>=◌}
use Rattle.text_in.specs.Numbers.{number_at}
use Rattle.text_in.specs.Words.{word_at, line_end}
use Rattle.request.specs.declared.lines.Pair.{Pair}

-- the letters of the request's words
abbrev pub comma : List ℕ
comma = 44 ∷ []

abbrev pub string' : List ℕ
string' = 115 ∷ 116 ∷ 114 ∷ 105 ∷ 110 ∷ 103 ∷ []

abbrev pub type' : List ℕ
type' = 116 ∷ 121 ∷ 112 ∷ 101 ∷ []

abbrev pub field' : List ℕ
field' = 102 ∷ 105 ∷ 101 ∷ 108 ∷ 100 ∷ []

abbrev pub method' : List ℕ
method' = 109 ∷ 101 ∷ 116 ∷ 104 ∷ 111 ∷ 100 ∷ []

abbrev pub kind= : List ℕ
kind= = 107 ∷ 105 ∷ 110 ∷ 100 ∷ 61 ∷ []

-- a number that was read, and the line's end after it
unfoldable pub ended : List ℕ → Number → Option Number
ended s r = do
  next ← line_end s r.next
  Some (record { value = r.value; next = next })

-- name, number, line end
unfoldable pub number_line : List ℕ → List ℕ → ℕ → Option Number
number_line name s i = do
  start ← word_at name s i
  number ← number_at s start
  ended s number

-- name, number, and then comma, number, line end
unfoldable pub pair_line : List ℕ → List ℕ → ℕ → Option Pair
pair_line name s i = do
  start ← word_at name s i
  off ← number_at s start
  size ← number_line comma s off.next
  Some (record { table = record { off = off.value; size = size.value }; next = size.next })

unfoldable pub kind_named : List ℕ → ℕ → List ℕ → ℕ → Option Number
kind_named name kind s i = do
  next ← word_at name s i
  Some (record { value = kind; next = next })

-- the kinds 1 to 4 (SPEC, Conventions)
unfoldable pub kind_at : List ℕ → ℕ → Option Number
kind_at s i =
    option_or (option_or (option_or (kind_named string' 1 s i) (kind_named type' 2 s i)) (kind_named field' 3 s i)) (kind_named method' 4 s i)

-- name, kind, line end
unfoldable pub kind_line : List ℕ → ℕ → Option Number
kind_line s i = do
  start ← word_at kind= s i
  kind ← kind_at s start
  ended s kind
