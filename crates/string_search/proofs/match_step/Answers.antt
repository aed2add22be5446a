-- A find without an owner changes nothing; the index of another joins the set.
-- Assumes nothing.
use mathlib.Core.Path.{refl, sym}
use Rattle.words.proofs.Shared.{met}
use Rattle.string_search.specs.Steps.{joined, passed}
use Rattle.string_search.proofs.match_step.Goals as goal

pub returns-in_default : goal.returns-in_default
returns-in_default c = passed (sym (met c.in_default.is c.owner_of.ensures)) refl refl

pub returns : goal.returns
returns c =
    joined _ (sym (met c.in-Entry.is c.owner_of.ensures)) c.add.ensures
