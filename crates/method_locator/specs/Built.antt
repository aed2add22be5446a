-- What the build of both maps of method ids comes to: the refusal's number, and the words of the four lent slices. Refusals in the
-- order of SPEC, Groups: 1, 3, 4. The keys are those of "Dalvik Executable format", "method_id_item".
-- Assumes nothing.
use Rattle.std.specs.Prelude.{ℕ, ◌≡◌, List, [], ◌∷◌, length, Result, Ok, Err}
use Rattle.dalvik.specs.Ids.{method_id_size, method_class_idx, method_name_idx}
use Rattle.tinydex.specs.declared.DexHeader.{DexHeader}
use Rattle.refusal.specs.declared.Refusal.{Refusal}
use Rattle.refusal.specs.Refusals.{refusal_number}
use Rattle.groups.specs.Built as one
use Rattle.groups.specs.Built.{GroupWords, groups_of, Laid}
use Rattle.groups.specs.Join.{first_refusal, kept}
use Rattle.method_locator.specs.declared.Built.{Built}

-- the words of the build's slices: the groups by class, and those by name
pub record MethodWords : Type 0 where
  pub clz : GroupWords
  pub name : GroupWords

abbrev pub method_words : GroupWords → GroupWords → MethodWords
method_words c n = record { clz = c; name = n }

-- by class, below the number of types
abbrev pub clz_groups : List ℕ → DexHeader → GroupWords
clz_groups s h = groups_of (method_class_idx s h.methods.off) h.methods.size h.types.size

abbrev pub clz_outcome : List ℕ → DexHeader → GroupWords → one.Outcome
clz_outcome s h before = one.outcome (length s) h.methods method_id_size (clz_groups s h) before

-- by name, below the number of strings
abbrev pub name_groups : List ℕ → DexHeader → GroupWords
name_groups s h = groups_of (method_name_idx s h.methods.off) h.methods.size h.strings.size

abbrev pub name_outcome : List ℕ → DexHeader → GroupWords → one.Outcome
name_outcome s h before = one.outcome (length s) h.methods method_id_size (name_groups s h) before

pub record Outcome : Type 0 where
  pub number : ℕ
  pub clz : GroupWords
  pub name : GroupWords

-- both as one operation
unfoldable pub joint : one.Outcome → one.Outcome → Outcome
joint c f =
    let n = first_refusal (c.number ∷ f.number ∷ []) in
    record { number = n; clz = kept n c.groups; name = kept n f.groups }

-- of a file and its record, into lent words
abbrev pub outcome : List ℕ → DexHeader → MethodWords → Outcome
outcome s h before = joint (clz_outcome s h before.clz) (name_outcome s h before.name)

-- the number of an answer, 0 for success, and how many method ids it says are grouped
abbrev pub built_number : Result Built Refusal → ℕ
built_number (Ok b) = 0
built_number (Err r) = refusal_number r

abbrev pub clz_count : Result Built Refusal → ℕ
clz_count (Ok b) = b.clz
clz_count (Err r) = 0

abbrev pub name_count : Result Built Refusal → ℕ
name_count (Ok b) = b.name
name_count (Err r) = 0

-- an answer and the words left are the outcome's
pub record Gives (o : Outcome) (r : Result Built Refusal) (before after : MethodWords) : Type 0 where
  pub number : built_number r ≡ o.number
  pub clz_counted : clz_count r ≡ length o.clz.ids
  pub name_counted : name_count r ≡ length o.name.ids
  pub clz_words : Laid o.clz before.clz after.clz
  pub name_words : Laid o.name before.name after.name
