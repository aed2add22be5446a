-- Several builds as one operation: the first refusal in their order, and then nothing is left of any; else all.
-- Assumes nothing.
use Rattle.std.specs.Prelude.{ℕ, List, [], ◌∷◌, cond, eqb}
use Rattle.groups.specs.Built.{GroupWords, none}

-- of the numbers of the builds, 0 where none refuses
unfoldable pub first_refusal : List ℕ → ℕ
first_refusal [] = 0
first_refusal (n ∷ ns) = cond (eqb n 0) (first_refusal ns) n

-- what is left of a build's groups where the builds together have the number n
unfoldable pub kept : ℕ → GroupWords → GroupWords
kept n g = cond (eqb n 0) g none
