-- The methods that fit are collected before the words of types and strings are cleared.
-- Assumes nothing.
use Rattle.method_search.proofs.Fitting.{fitting_listed}
use Rattle.word_set.proofs.Found.{exit_short, exit_all}
use lib.Seq.{length-take-le}
use mathlib.Core.Path.{refl, sym}
use native.Mathlib.Omega.{arith}
use Rattle.method_search.proofs.select.Goals as goal

pub slice_bounds-wanted-end-2 : goal.slice_bounds-wanted-end-2
slice_bounds-wanted-end-2 c =
    sym (length-take-le _ _ c.requires.types_fit)

pub slice_bounds-wanted-end-4 : goal.slice_bounds-wanted-end-4
slice_bounds-wanted-end-4 c =
    sym (length-take-le _ _ c.requires.names_fit)

pub returns-in_default : goal.returns-in_default
returns-in_default c =
    let m = c.collect-found in
    record {
      selected = record {
        found =
            exit_short m.ensures 0 refl _ refl (fitting_listed _ _) _ c.in_default.is
            (omega (arith, m.auto)) c.clear-in_default.ensures;
        types_cleared = c.clear.ensures;
        names_cleared = c.clear-2.ensures;
      };
      same_lent = record { strings = refl; types = refl; out = refl };
    }

pub returns : goal.returns
returns c =
    record {
      selected = record {
        found = exit_all c.collect-found.ensures 0 refl _ refl _ c.in-Some.is;
        types_cleared = c.clear.ensures;
        names_cleared = c.clear-2.ensures;
      };
      same_lent = record { strings = refl; types = refl; out = refl };
    }
