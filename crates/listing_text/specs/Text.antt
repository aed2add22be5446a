-- What `refs` prints, letter by letter: SPEC, The program refs.
-- Assumes nothing.
use Rattle.std.specs.Prelude.{ℕ, List, [], ◌∷◌, ◌++◌, cond, ◌&&◌, leb, eqb}
use Rattle.refusal.specs.declared.Refusal.{Refusal}
use Rattle.refusal.specs.Refusals.{refusal_number}
use Rattle.refusal.specs.Outcomes.{Outcome, refused}
use Rattle.text_out.specs.Text.{decimal, feed, text_outcome}
use Rattle.request.specs.Lines.{kind=, string', type', field', method'}

-- the letters
abbrev pub hits= : List ℕ
hits= = 10 ∷ 104 ∷ 105 ∷ 116 ∷ 115 ∷ 61 ∷ []

abbrev pub off= : List ℕ
off= = 111 ∷ 102 ∷ 102 ∷ 61 ∷ []

abbrev pub idx= : List ℕ
idx= = 32 ∷ 105 ∷ 100 ∷ 120 ∷ 61 ∷ []

abbrev pub mids= : List ℕ
mids= = 32 ∷ 109 ∷ 105 ∷ 100 ∷ 115 ∷ 61 ∷ []

abbrev pub refusal= : List ℕ
refusal= = 114 ∷ 101 ∷ 102 ∷ 117 ∷ 115 ∷ 97 ∷ 108 ∷ 61 ∷ []

-- a comma before each
unfoldable pub more : List ℕ → List ℕ
more [] = []
more (m ∷ ms) = (44 ∷ decimal m) ++ more ms

-- commas between them, and `-` for none
unfoldable pub mids_text : List ℕ → List ℕ
mids_text [] = 45 ∷ []
mids_text (m ∷ ms) = decimal m ++ more ms

-- of the kinds 1 to 4
unfoldable pub kind_name : ℕ → List ℕ
kind_name k = cond (eqb k 1) string' (cond (eqb k 2) type' (cond (eqb k 3) field' method'))

abbrev pub entry_text : ℕ → ℕ → List ℕ → List ℕ
entry_text off idx mids = off= ++ decimal off ++ idx= ++ decimal idx ++ mids= ++ mids_text mids ++ feed

abbrev pub head_text : ℕ → ℕ → List ℕ
head_text kind hits = kind= ++ kind_name kind ++ hits= ++ decimal hits ++ feed

abbrev pub refusal_text : Refusal → List ℕ
refusal_text why = refusal= ++ decimal (refusal_number why) ++ feed

-- the outcomes, where room bytes are lent
unfoldable pub entry_out : ℕ → ℕ → List ℕ → ℕ → Outcome
entry_out off idx mids room = text_outcome (entry_text off idx mids) room

-- a number that is no kind's is refused first
unfoldable pub head_out : ℕ → ℕ → ℕ → Outcome
head_out kind hits room = cond (leb 1 kind && leb kind 4) (text_outcome (head_text kind hits) room) (refused 2)

unfoldable pub refusal_out : Refusal → ℕ → Outcome
refusal_out why room = text_outcome (refusal_text why) room
