-- What the inner step of the build leaves.
-- Assumes nothing.
use Rattle.std.specs.Prelude.{◌≡◌, length, Result, Ok, Err}
use Rattle.words.specs.Padded.{zeros}
use Rattle.refusal.specs.declared.Refusal.{Refusal}
use Rattle.method_locator.specs.declared.Built.{Built}
use Rattle.method_locator.specs.Built.{MethodWords, Outcome, Gives}

-- zeros in all four slices
pub record Cleared (before after : MethodWords) : Type 0 where
  pub clz_offs : after.clz.offs ≡ zeros (length before.clz.offs)
  pub clz_ids : after.clz.ids ≡ zeros (length before.clz.ids)
  pub name_offs : after.name.offs ≡ zeros (length before.name.offs)
  pub name_ids : after.name.ids ≡ zeros (length before.name.ids)

-- the outcome, where the words of a refusal are cleared after it
abbrev pub BothBuilt : Outcome → Result Built Refusal → MethodWords → MethodWords → Type 0
BothBuilt o (Ok b) before after = Gives o (Ok b) before after
BothBuilt o (Err r) before after = (cleared : MethodWords) → Cleared before cleared → Gives o (Err r) before cleared
