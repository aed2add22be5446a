-- The owner of a find among the lent keys: SPEC, Searches.
-- Assumes nothing.
use Rattle.std.specs.Prelude.{ℕ, cond, List, [], ◌∷◌, leb}
use Rattle.string_search.specs.Keys.{key_offset, key_index}
use Rattle.string_search.specs.declared.Owner.{Owner}
use Rattle.string_search.specs.declared.Owner.TheVariants.{Entry, Absent}

-- the key k, if its offset is not past p
abbrev pub reaches : ℕ → ℕ → Owner
reaches k p = cond (leb (key_offset k) p) (Entry (key_index k)) Absent

-- a later key's answer goes before
abbrev pub or_else : Owner → Owner → Owner
or_else (Entry i) o = Entry i
or_else Absent o = o

-- the last key whose offset is not past p
unfoldable pub owner : List ℕ → ℕ → Owner
owner [] p = Absent
owner (k ∷ ks) p = or_else (owner ks p) (reaches k p)
