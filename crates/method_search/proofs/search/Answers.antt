-- A law for each way out: of the class, of the name, and of the methods that fit both.
-- Assumes nothing.
use Rattle.method_search.specs.Steps.{asked_of}
use Rattle.method_search.proofs.Exits.{exit_class, exit_settled, exit_name, chosen, exit_select}
use mathlib.Core.Path.{refl, sym, ◌∙◌}
use native.Mathlib.Omega.{arith}
use Rattle.method_search.proofs.search.Goals as goal

pub returns-in_default : goal.returns-in_default
returns-in_default c =
    let p = c.requires in
    record {
      searched = exit_class (asked_of c.args.sought.now) p.none c.locate.ensures.gives c.in_default.field-0
          c.in_default.is _ p.clear;
      same_lent = record { strings = refl; types = refl; out = refl };
    }

pub returns-then-settled : goal.returns-then-settled
returns-then-settled c =
    let p = c.requires in
    record {
      searched = exit_settled (asked_of c.args.sought.now) p.none c.locate.ensures.gives _
          c.in-Ok.is (sym c.settled.ensures ∙ c.if-settled.true) _ p.clear;
      same_lent = record { strings = refl; types = refl; out = refl };
    }

pub returns-in_default-locate_name : goal.returns-in_default-locate_name
returns-in_default-locate_name c =
    let p = c.requires in
    record {
      searched = exit_name (asked_of c.args.sought.now) p.none c.locate.ensures.gives _ c.in-Ok.is
          (sym c.settled.ensures ∙ c.if-settled.false) c.locate_name.ensures
          c.in_default-locate_name.field-0 c.in_default-locate_name.is _
          c.clear.ensures (omega (arith, c.locate.auto)) _ p.clear;
      same_lent = record { strings = refl; types = refl; out = refl };
    }

pub select-requires : goal.select-requires
select-requires c =
    let p = c.requires in
    chosen (asked_of c.args.sought.now) p.none c.locate.ensures.gives _ c.in-Ok.is
    (sym c.settled.ensures ∙ c.if-settled.false) c.locate_name.ensures _ c.in-Ok-locate_name.is
    _ p.clear

pub returns : goal.returns
returns c =
    let p = c.requires in
    let o = c.select.ensures.same_lent in
    record {
      searched = exit_select (asked_of c.args.sought.now) p.none c.locate.ensures.gives _ c.in-Ok.is
          (sym c.settled.ensures ∙ c.if-settled.false) c.locate_name.ensures _ c.in-Ok-locate_name.is c.select.ensures.selected
          (omega (arith, c.locate.auto)) (omega (arith, c.locate_name.auto));
      same_lent = record { strings = o.strings; types = o.types; out = o.out };
    }
