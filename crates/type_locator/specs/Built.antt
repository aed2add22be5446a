-- What the build of the type ids by their strings comes to: the refusal's number, and the words of the two lent slices. The key is that
-- of "Dalvik Executable format", "type_id_item".
-- Assumes nothing.
use Rattle.std.specs.Prelude.{List, ℕ, length}
use Rattle.dalvik.specs.Ids.{type_id_size, type_descriptor_idx}
use Rattle.tinydex.specs.declared.DexHeader.{DexHeader}
use Rattle.groups.specs.Built as one
use Rattle.groups.specs.Built.{GroupWords, groups_of, Outcome}

-- by descriptor_idx, below the number of strings
abbrev pub type_groups : List ℕ → DexHeader → GroupWords
type_groups s h = groups_of (type_descriptor_idx s h.types.off) h.types.size h.strings.size

-- of a file and its record, into lent words
abbrev pub outcome : List ℕ → DexHeader → GroupWords → Outcome
outcome s h before = one.outcome (length s) h.types type_id_size (type_groups s h) before
